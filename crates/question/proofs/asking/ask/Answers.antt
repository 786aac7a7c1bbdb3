use mathlib.Core.Path.{◌∙◌}
use Rattle.simplify.proofs.FreshRun.{answer_is}
use Rattle.question.proofs.Answered.{compared_is}
use Rattle.question.proofs.asking.ask.Goals as goal

pub returns-in-Ok : goal.returns-in-Ok
returns-in-Ok c = compared_is 0 0 c.in-Ok.why (answer_is 0 0 0 0 0) ∙ c.in-Ok.ensures

pub returns-in-Err : goal.returns-in-Err
returns-in-Err c = compared_is _ _ _ c.into.ensures ∙ c.in-Err.ensures
