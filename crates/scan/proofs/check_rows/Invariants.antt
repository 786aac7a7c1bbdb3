use Rattle.scan.proofs.Scan.{Scanning}
use Rattle.scan.proofs.check_rows.Given as goal

abbrev pub invariant-loop-r : goal.invariant-loop-r
invariant-loop-r l = Scanning l.t l.w l.n l.firsts l.r
