use Prim.Native.Nat.{◌+◌}
use Rattle.tracing.proofs.Steps.{Told}
use Rattle.tracing.proofs.put_walk.Given as goal

abbrev pub invariant-loop-compared : goal.invariant-loop-compared
invariant-loop-compared l = Told (l.top + 1) l.table l.res l.store l.initial.text l.limit l.j.row l.m l.r l.text l.n l._compared
