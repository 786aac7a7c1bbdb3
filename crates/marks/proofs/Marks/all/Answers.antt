use Rattle.marks.proofs.Marking.{all_marked}
use Rattle.marks.proofs.Marks.all.Goals as goal

pub returns : goal.returns
returns c = all_marked
