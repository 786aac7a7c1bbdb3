use Rattle.word.proofs.Mask.{masked_difference}
use Rattle.range.proofs.size.Goals as goal

pub returns : goal.returns
returns c = search masked_difference
