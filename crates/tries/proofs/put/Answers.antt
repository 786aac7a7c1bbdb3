use native.Mathlib.Omega.{arith}
use Rattle.row.specs.Names.{place}
use Rattle.tries.proofs.put.Goals as goal

pub put-requires : goal.put-requires
unfolding place
put-requires c = omega arith
