use Rattle.clean.proofs.Clean.{all_fields}
use Rattle.clean.proofs.fields.Goals as goal

pub returns : goal.returns
returns c = search (all_fields, rw c.byte.ensures at c.of-u.ensures)
