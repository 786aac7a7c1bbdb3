use Rattle.table.proofs.Told.{told_on}
use Rattle.judge.proofs.Judged.{run_room, run_limited}
use Rattle.judge.proofs.calls.before_rows.Goals as goal

pub returns-in_err-room : goal.returns-in_err-room
returns-in_err-room c = told_on c.from_residual.result _ c.from_residual.ensures.1 (run_room _ _ _ _ c.in_err-room.ensures)

pub returns : goal.returns
returns c = run_limited _ _ _ c.in_ok-room.ensures c.limited.ensures
