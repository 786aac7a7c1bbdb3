use Rattle.simplify.proofs.FreshRun.{answer_is}
use Rattle.simplify.proofs.running.refused.Goals as goal

pub returns : goal.returns
returns c = answer_is _ _ 0 0 0
