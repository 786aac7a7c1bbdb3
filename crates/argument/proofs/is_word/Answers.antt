use Rattle.argument.proofs.Words.{pointwise_same}
use Rattle.argument.proofs.is_word.Goals as goal

pub returns : goal.returns
returns c = rw c.eq.ensures (pointwise_same _ _)
