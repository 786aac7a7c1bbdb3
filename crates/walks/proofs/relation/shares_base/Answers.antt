use Rattle.row.proofs.States.{is_of}
use Rattle.walks.proofs.Relations.{moved_alike, moved_apart}
use Rattle.walks.proofs.relation.shares_base.Goals as goal

pub returns-then-u : goal.returns-then-u
returns-then-u c = search (moved_alike, is_of c.is.ensures c.if-is.true)

pub returns-then-is : goal.returns-then-is
returns-then-is c = search (moved_apart, is_of c.is.ensures c.if-is.true)
