use Rattle.row.proofs.Steps.{row_decoded}
use Rattle.row.specs.Names.{place}
use native.Mathlib.Omega.{arith}
use Rattle.row.proofs.Row.decode.Goals as goal

pub place-at-requires : goal.place-at-requires
unfolding place
place-at-requires c = omega arith

pub returns : goal.returns
returns c = search row_decoded
