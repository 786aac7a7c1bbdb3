use mathlib.Core.Path.{refl}
use Rattle.touching.specs.Touched.{follows}
use Rattle.touching.proofs.follows.Goals as goal

pub returns : goal.returns
unfolding follows
returns c = refl
