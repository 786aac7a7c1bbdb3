use Rattle.touching.proofs.Marking.{MarkedSoFar}
use Rattle.touching.proofs.mark_touched.Given as goal

abbrev pub invariant-loop-x : goal.invariant-loop-x
invariant-loop-x l = MarkedSoFar l.t l.old l.r l.n l.was l.is l.x l.marks
