use Prim.Native.Nat.{◌+◌, ◌*◌}
use Rattle.needed.specs.Needed.{Keeping}
use Rattle.needed.proofs.ranges.keep_marked.Given as goal

abbrev pub invariant-loop-word : goal.invariant-loop-word
invariant-loop-word l = Keeping l.res l.marks l.w (64 * l.word) l.store

abbrev pub invariant-loop-bit : goal.invariant-loop-bit
invariant-loop-bit l = Keeping l.res l.marks l.w (64 * l.word + l.bit) l.store
