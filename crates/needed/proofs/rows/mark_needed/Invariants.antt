use Prim.Native.Nat.{◌+◌, ◌*◌}
use Rattle.needed.proofs.Marking.{Down}
use Rattle.needed.proofs.rows.mark_needed.Given as goal

abbrev pub invariant-loop-word : goal.invariant-loop-word
invariant-loop-word l = Down l.res l.fn.marks (64 * l.word) l.marks

abbrev pub invariant-loop-bit : goal.invariant-loop-bit
invariant-loop-bit l = Down l.res l.fn.marks (64 * l.word + l.bit) l.marks
