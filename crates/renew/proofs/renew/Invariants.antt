use Rattle.renew.proofs.Turning.{Rounds}
use Rattle.renew.proofs.renew.Given as goal

abbrev pub invariant-loop-r : goal.invariant-loop-r
invariant-loop-r l =
    Rounds l.table l.initial.res l.marks l.w l.limit l.n l.r l.res l.store l.firsts l.removed l.compared
