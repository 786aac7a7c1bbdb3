use Rattle.row.proofs.States.{is_of, is_other}
use Rattle.walks.proofs.Values.{second_sum, second_diff, second_none}
use Rattle.walks.proofs.value.second_row.Goals as goal

pub returns-then-is : goal.returns-then-is
returns-then-is c = search (second_sum, is_of c.is.ensures c.if-is.true)

pub returns-then-is-2 : goal.returns-then-is-2
returns-then-is-2 c = search (second_diff, is_of c.is-2.ensures c.if-is-2.true)

pub returns : goal.returns
returns c = search (second_none, is_other c.is.ensures c.if-is.false, is_other c.is-2.ensures c.if-is-2.false)
