use Rattle.range.proofs.Made.{is_point}
use Rattle.range.proofs.Range.of_word.Goals as goal

pub returns : goal.returns
returns c = search is_point
