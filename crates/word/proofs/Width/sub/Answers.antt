use Rattle.word.proofs.Mask.{wrapped_difference}
use Rattle.word.proofs.Width.sub.Goals as goal

pub returns : goal.returns
returns c = search wrapped_difference
