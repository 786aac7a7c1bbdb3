use native.Mathlib.Omega.{arith}
use Rattle.std.proofs.lemmas.Grind.{common_steps}
use Rattle.touching.proofs.Marking.{names}
use Rattle.touching.proofs.names_marked.Goals as goal

pub returns-then-field_marked-2 : goal.returns-then-field_marked-2
returns-then-field_marked-2 c = grind (arith, common_steps, names c.args.marks.now c.args.x c.of-u.ensures c.requires)

pub returns-else-field_marked-2 : goal.returns-else-field_marked-2
returns-else-field_marked-2 c = grind (arith, common_steps, names c.args.marks.now c.args.x c.of-u.ensures c.requires)
