use Rattle.marks.proofs.Marking.{none_marked}
use Rattle.marks.proofs.Marks.none.Goals as goal

pub returns : goal.returns
returns c = none_marked
