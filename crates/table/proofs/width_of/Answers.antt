use Rattle.table.specs.Refusals.{width}
use Rattle.table.proofs.width_of.Goals as goal

pub returns : goal.returns
unfolding width
returns c = c.byte.ensures
