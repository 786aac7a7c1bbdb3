use Rattle.simplify.proofs.Edits.{row_taken}
use native.Mathlib.Omega.{arith}
use Rattle.row.specs.Names.{place}
use Rattle.simplify.proofs.editing.take_row.Goals as goal

pub place-requires : goal.place-requires
unfolding place
place-requires c = omega arith

pub returns : goal.returns
returns c = search row_taken
