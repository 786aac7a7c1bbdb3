use Rattle.putting.proofs.Steps.{row_put}
use Rattle.row.specs.Names.{place}
use native.Mathlib.Omega.{arith}
use Rattle.putting.proofs.put.Goals as goal

pub place-at-requires : goal.place-at-requires
unfolding place
place-at-requires c = omega arith

pub returns : goal.returns
returns c = search row_put
