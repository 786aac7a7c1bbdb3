use Rattle.row.specs.Bytes.{row_at, row_from}
use Rattle.row.specs.Names.{place}
use native.Mathlib.Omega.{arith}
use Rattle.row.proofs.Row.kind_at.Goals as goal

pub place-requires : goal.place-requires
unfolding place
place-requires c = omega arith

pub returns : goal.returns
unfolding row_at row_from
returns c = rw c.place.ensures
