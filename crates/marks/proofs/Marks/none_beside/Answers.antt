use Rattle.marks.proofs.Marking.{beside_told}
use Rattle.marks.proofs.Marks.none_beside.Goals as goal

pub returns : goal.returns
returns c = rw (← c.self.view_is) (beside_told _ _)
