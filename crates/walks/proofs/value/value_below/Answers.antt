use Rattle.row.proofs.States.{is_of, is_other}
use Rattle.walks.proofs.Values.{value_var, value_const, value_none}
use Rattle.walks.proofs.value.value_below.Goals as goal

pub returns-then-is : goal.returns-then-is
returns-then-is c = search (value_var, is_of c.is.ensures c.if-is.true)

pub returns-then-is-2 : goal.returns-then-is-2
returns-then-is-2 c = search (value_const, is_of c.is-2.ensures c.if-is-2.true)

pub returns : goal.returns
returns c = search (value_none, is_other c.is.ensures c.if-is.false, is_other c.is-2.ensures c.if-is-2.false)
