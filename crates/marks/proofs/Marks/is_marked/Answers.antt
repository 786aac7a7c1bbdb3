use Rattle.marks.proofs.Marking.{test_told}
use Rattle.marks.proofs.Marks.is_marked.Goals as goal

pub returns : goal.returns
returns c = rw (← c.self.view_is) (test_told _ _)
