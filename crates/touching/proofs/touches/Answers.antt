use Rattle.row.proofs.States.{is_of, is_other}
use Rattle.touching.proofs.Marking.{touches_variable, touches_named}
use Rattle.touching.proofs.touches.Goals as goal

pub returns-then-is : goal.returns-then-is
returns-then-is c = search (touches_variable, is_of c.is.ensures c.if-is.true)

pub returns : goal.returns
returns c = search (touches_named, is_other c.is.ensures c.if-is.false)
