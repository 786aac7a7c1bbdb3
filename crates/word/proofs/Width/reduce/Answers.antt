use Rattle.word.proofs.Mask.{masked_is_mod}
use Rattle.word.proofs.Width.reduce.Goals as goal

pub returns-clause-reduced : goal.returns-clause-reduced
returns-clause-reduced c = rw (← c.self.view_is) (search masked_is_mod)
