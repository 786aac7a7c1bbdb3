use Rattle.names.proofs.Slots.{Searching}
use Rattle.names.proofs.search.Given as goal

abbrev pub invariant-loop-y : goal.invariant-loop-y
invariant-loop-y l = Searching l.t l.name l.n l.y
