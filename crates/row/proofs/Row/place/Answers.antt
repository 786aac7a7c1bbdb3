use mathlib.Core.Path.{refl}
use Rattle.row.specs.Names.{place}
use Rattle.row.proofs.Row.place.Goals as goal

pub returns : goal.returns
unfolding place
returns c = refl
