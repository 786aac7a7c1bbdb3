use Rattle.range.proofs.Made.{is_two_lem}
use Rattle.range.proofs.Range.is_two.Goals as goal

pub returns : goal.returns
returns c = search is_two_lem
