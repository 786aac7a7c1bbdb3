use native.Mathlib.Omega.{arith}
use mathlib.Core.Path.{sym, ◌∙◌}
use Rattle.needed.proofs.Keeping.{up_word, up_bit, up_saved, keep_asks, keep_saved}
use Rattle.needed.proofs.ranges.keep_marked.Goals as goal
use Rattle.needed.proofs.ranges.keep_marked.Goals.{then-is_marked, else-is_marked}

pub loop-word-preserved-then-none_beside : goal.loop-word-preserved-then-none_beside
loop-word-preserved-then-none_beside c =
    up_word _ c.loop-word.invariant (sym c.none_beside.ensures ∙ c.if-none_beside.true)

pub entry_of-a-requires : goal.entry_of-a-requires
entry_of-a-requires c =
    keep_asks _ _ _ _ _ c.loop-bit.invariant (omega arith) (sym c.is_marked.ensures ∙ c.if-is_marked.true) c.decode.ensures

pub loop-bit-preserved : goal.loop-bit-preserved
loop-bit-preserved c =
    elim c.if-is_marked.branch [
      | then-is_marked w ↦
          rw w.store-is
          (up_saved _ _
          (keep_saved _ _ _ _ _ c.loop-bit.invariant (omega arith) (sym c.is_marked.ensures ∙ w.if-is_marked.true) w.decode.ensures w.entry_of-a.ensures w.save.ensures.range w.save.ensures.long))
      | else-is_marked w ↦ rw w.store-is (up_bit _ _ c.loop-bit.invariant (sym c.is_marked.ensures ∙ w.if-is_marked.false))
    ]
