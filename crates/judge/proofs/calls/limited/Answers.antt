use Rattle.judge.proofs.Judged.{limit_high, limit_fine}
use Rattle.judge.proofs.calls.limited.Goals as goal

pub returns-then-limit : goal.returns-then-limit
returns-then-limit c = search limit_high

pub returns : goal.returns
returns c = search limit_fine
