use Rattle.row.proofs.States.{is_of}
use Rattle.walks.proofs.Values.{value_shift, value_shaped}
use Rattle.walks.proofs.value.value_of.Goals as goal

pub returns-then-is : goal.returns-then-is
returns-then-is c = search (value_shift, is_of c.is.ensures c.if-is.true)

pub returns : goal.returns
returns c = search value_shaped
