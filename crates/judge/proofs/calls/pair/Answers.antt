use native.Mathlib.Omega.{arith}
use Rattle.table.proofs.Told.{told_on}
use Rattle.judge.proofs.Judged.{pair_room, header_there, pair_first, pair_second, pair_fine}
use Rattle.judge.proofs.calls.pair.Goals as goal

pub returns-in_err-room : goal.returns-in_err-room
returns-in_err-room c = told_on c.from_residual.result _ c.from_residual.ensures.1 (pair_room _ _ _ _ _ c.in_err-room.ensures)

pub rows_of-n-requires : goal.rows_of-n-requires
rows_of-n-requires c = header_there _ _ c.in_ok-room.ensures

pub returns-then-n-x : goal.returns-then-n-x
returns-then-n-x c = pair_first _ _ _ _ c.in_ok-room.ensures c.rows_of-n.ensures.is (omega arith)

pub returns-then-n-y : goal.returns-then-n-y
returns-then-n-y c = pair_second _ _ _ _ c.in_ok-room.ensures c.rows_of-n.ensures.is (omega arith)

pub returns : goal.returns
returns c = pair_fine _ _ _ _ c.in_ok-room.ensures c.rows_of-n.ensures.is (omega arith) (omega arith)
