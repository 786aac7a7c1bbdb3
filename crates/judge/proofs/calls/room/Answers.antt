use Rattle.table.proofs.Told.{told_on}
use Rattle.judge.proofs.Judged.{room_head, room_short, room_enough}
use Rattle.judge.proofs.calls.room.Goals as goal

pub returns-in_err-head : goal.returns-in_err-head
returns-in_err-head c = told_on c.from_residual.result _ c.from_residual.ensures.1 (room_head _ _ _ c.in_err-head.ensures)

pub returns-then-buffer-t : goal.returns-then-buffer-t
returns-then-buffer-t c = room_short _ _ c.in_ok-head.ensures c.if-buffer-t.true

pub returns : goal.returns
returns c = room_enough _ _ c.in_ok-head.ensures c.if-buffer-t.false
