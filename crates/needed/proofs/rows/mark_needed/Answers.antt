use native.Mathlib.Omega.{arith}
use mathlib.Core.Path.{sym, ◌∙◌}
use Rattle.needed.proofs.Marking.{down_word}
use Rattle.needed.proofs.rows.mark_needed.Goals as goal

pub loop-word-preserved-then-none_beside : goal.loop-word-preserved-then-none_beside
loop-word-preserved-then-none_beside c =
    down_word _ (omega arith) c.loop-word.invariant (sym c.none_beside.ensures ∙ c.if-none_beside.true)
