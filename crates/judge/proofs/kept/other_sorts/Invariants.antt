use Rattle.judge.proofs.KeptJudged.{SortedSoFar}
use Rattle.judge.proofs.kept.other_sorts.Given as goal

abbrev pub invariant-loop-x : goal.invariant-loop-x
invariant-loop-x l = SortedSoFar l.t l.kept l.x
