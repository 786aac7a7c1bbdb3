use native.Mathlib.Omega.{arith}
use Rattle.row.specs.Bytes.{mark_wrong}
use Rattle.row.specs.Names.{place}
use Rattle.row.proofs.Row.mark_wrong.Goals as goal

pub place-at-requires : goal.place-at-requires
unfolding place
place-at-requires c = omega arith

pub returns : goal.returns
unfolding mark_wrong
returns c = rw c.place-at.ensures
