use Rattle.row.proofs.Steps.{source_read}
use Rattle.row.specs.Names.{place}
use native.Mathlib.Omega.{arith}
use Rattle.row.proofs.Row.source_at.Goals as goal

pub place-requires : goal.place-requires
unfolding place
place-requires c = omega arith

pub returns : goal.returns
returns c = search source_read
