use Rattle.word.proofs.Mask.{wrapped_sum}
use Rattle.word.proofs.Width.add.Goals as goal

pub returns : goal.returns
returns c = search wrapped_sum
