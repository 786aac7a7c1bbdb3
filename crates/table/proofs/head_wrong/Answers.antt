use mathlib.Core.Path.{refl}
use Rattle.table.specs.Refusals.{head_wrong}
use Rattle.table.proofs.head_wrong.Goals as goal

pub returns : goal.returns
unfolding head_wrong
returns c = refl
