use native.Mathlib.Omega.{arith}
use Rattle.table.proofs.Told.{told_on}
use Rattle.judge.proofs.Judged.{header_there}
use Rattle.explanation.proofs.Judged.{row_room, row_beyond, row_fine}
use Rattle.explanation.proofs.judging.row.Goals as goal

pub returns-in_err-room : goal.returns-in_err-room
returns-in_err-room c = told_on c.from_residual.result _ c.from_residual.ensures.1 (row_room _ _ _ _ c.in_err-room.ensures)

pub rows_of-n-requires : goal.rows_of-n-requires
rows_of-n-requires c = header_there _ _ c.in_ok-room.ensures

pub returns-then-n-x : goal.returns-then-n-x
returns-then-n-x c = row_beyond _ _ _ c.in_ok-room.ensures c.rows_of-n.ensures.is (omega arith)

pub returns : goal.returns
returns c = row_fine _ _ _ c.in_ok-room.ensures c.rows_of-n.ensures.is (omega arith)
