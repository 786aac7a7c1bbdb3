use native.Mathlib.Omega.{arith}
use Rattle.row.specs.Names.{place}
use Rattle.show.proofs.print_rows.Goals as goal

pub print_lines-requires : goal.print_lines-requires
unfolding place
print_lines-requires g c = omega arith

pub overflow_add-from : goal.overflow_add-from
unfolding place
overflow_add-from g c = omega arith
