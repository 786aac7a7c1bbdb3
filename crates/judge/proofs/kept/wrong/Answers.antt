use borrow.Author.Rules.{rules}
use Rattle.judge.proofs.KeptJudged.{part_is}
use Rattle.judge.proofs.kept.wrong.Goals as goal

pub returns : goal.returns
returns c = part_is _ _ (search rules) (search rules)
