use Rattle.range.proofs.Made.{is_full}
use Rattle.range.proofs.Range.of_all.Goals as goal

pub returns : goal.returns
returns c = search is_full
