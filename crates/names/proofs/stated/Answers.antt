use Rattle.names.proofs.Slots.{nameless_kind, variable_name}
use Rattle.names.proofs.stated.Goals as goal

pub returns-then-t-at : goal.returns-then-t-at
returns-then-t-at c = search (nameless_kind, rw c.byte.ensures at c.if-t-at.true)

pub returns : goal.returns
returns c = search (variable_name, rw c.byte.ensures at c.if-t-at.false)
