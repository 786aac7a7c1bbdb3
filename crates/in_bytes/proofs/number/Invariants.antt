use Rattle.std.proofs.Common.{◌≡◌}
use Rattle.in_bytes.specs.Numbers.{number}
use Rattle.in_bytes.proofs.number.Given as goal

abbrev pub invariant-loop-k : goal.invariant-loop-k
invariant-loop-k g l = l.v ≡ number l.k l.t l.i
