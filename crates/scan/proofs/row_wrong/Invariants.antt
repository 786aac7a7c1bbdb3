use Rattle.scan.proofs.Scan.{Looking}
use Rattle.scan.proofs.row_wrong.Given as goal

abbrev pub invariant-loop-f : goal.invariant-loop-f
invariant-loop-f l = Looking l.t l.r l.x l.u l.mixed l.f
