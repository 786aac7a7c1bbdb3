use Rattle.putting.proofs.Steps.{references_put}
use Rattle.putting.proofs.put_references.Goals as goal

pub returns : goal.returns
returns c = search references_put
