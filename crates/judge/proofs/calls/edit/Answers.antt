use native.Mathlib.Omega.{arith}
use Rattle.table.proofs.Told.{told_on}
use Rattle.judge.proofs.Judged.{edit_room, header_there, edit_row, edit_long, edit_limited}
use Rattle.judge.proofs.calls.edit.Goals as goal

pub returns-in_err-room : goal.returns-in_err-room
returns-in_err-room c = told_on c.from_residual.result _ c.from_residual.ensures.1 (edit_room _ _ _ _ _ _ c.in_err-room.ensures)

pub rows_of-n-requires : goal.rows_of-n-requires
rows_of-n-requires c = header_there _ _ c.in_ok-room.ensures

pub returns-then-n-r : goal.returns-then-n-r
returns-then-n-r c = edit_row _ _ _ _ _ c.in_ok-room.ensures c.rows_of-n.ensures.is (omega arith)

pub returns-then-replacement-ne-LENGTH : goal.returns-then-replacement-ne-LENGTH
returns-then-replacement-ne-LENGTH c = edit_long _ _ _ _ _ c.in_ok-room.ensures c.rows_of-n.ensures.is (omega arith) c.if-replacement-ne-LENGTH.true

pub returns : goal.returns
returns c = edit_limited _ _ _ _ _ c.in_ok-room.ensures c.rows_of-n.ensures.is (omega arith) c.if-replacement-ne-LENGTH.false c.limited.ensures
