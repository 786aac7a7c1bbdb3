use Rattle.judge.proofs.Judged.{array_told}
use Rattle.judge.proofs.calls.is_array.Goals as goal

pub returns : goal.returns
returns c = search array_told
