use native.Mathlib.Omega.{arith}
use Rattle.row.specs.Names.{place}
use Rattle.names.proofs.Slots.{named_at}
use Rattle.names.proofs.stated_at.Goals as goal

pub place-requires : goal.place-requires
unfolding place
place-requires c = omega arith

pub returns : goal.returns
returns c = search named_at
