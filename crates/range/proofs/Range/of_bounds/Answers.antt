use Rattle.range.proofs.Made.{is_span}
use Rattle.range.proofs.Range.of_bounds.Goals as goal

pub returns : goal.returns
returns c = search is_span
