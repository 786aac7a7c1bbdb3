use Rattle.table.specs.Refusals.{rows}
use Rattle.table.proofs.rows_of.Goals as goal

pub returns : goal.returns
unfolding rows
returns c = c.number.ensures
