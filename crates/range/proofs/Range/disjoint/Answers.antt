use Rattle.range.proofs.Made.{start_shared, start_apart}
use Rattle.range.proofs.Range.disjoint.Goals as goal

pub returns-then-reaches : goal.returns-then-reaches
returns-then-reaches c = search start_shared

pub returns : goal.returns
returns c = search start_apart
