use Rattle.word.proofs.Mask.{shifted_out}
use Rattle.word.proofs.Width.too_large.Goals as goal

pub returns : goal.returns
returns c = rw (← c.self.view_is) (shifted_out c.self.inside.bits c.args.v)
