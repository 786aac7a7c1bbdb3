use Rattle.walks.proofs.Relations.{related_known}
use Rattle.walks.proofs.relation.related.Goals as goal

pub returns : goal.returns
returns c = search related_known
