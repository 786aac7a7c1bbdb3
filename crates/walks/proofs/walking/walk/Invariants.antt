use Rattle.walks.proofs.Walks.{Onward}
use Rattle.walks.proofs.walking.walk.Given as goal

abbrev pub invariant-loop-compared : goal.invariant-loop-compared
invariant-loop-compared l = Onward l.res l.store l.limit l.r l.j.row l.m l.n l.compared
