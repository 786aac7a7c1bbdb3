use native.Mathlib.Omega.{arith}
use Rattle.row.specs.Names.{place}
use Rattle.show.proofs.rows.Goals as goal

pub returns : goal.returns
unfolding place
returns c = omega arith
