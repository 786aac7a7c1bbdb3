use mathlib.Core.Path.{◌∙◌, sym}
use mathlib.Core.Bool.{true≢false}
use Rattle.judge.proofs.KeptJudged.{part_refused, part_head, part_sorts}
use Rattle.judge.proofs.kept.part_wrong.Goals.{then-is_err, else-is_err}
use Rattle.judge.proofs.kept.part_wrong.Goals as goal

pub returns-then-other_header : goal.returns-then-other_header
returns-then-other_header c =
    elim c.if-is_err.branch [
      | then-is_err w ↦ w.value-is ∙ w.if-is_err.true ∙ part_refused _ _ c.check.result c.check.ensures c.is_err.ensures.value w.if-is_err.true
      | else-is_err w ↦
          w.value-is ∙ part_head _ _ c.check.result c.check.ensures c.is_err.ensures.value w.other_header.ensures (sym w.value-is ∙ c.if-other_header.true)
    ]

pub returns-else-other_header : goal.returns-else-other_header
returns-else-other_header c =
    elim c.if-is_err.branch [
      | then-is_err w ↦ absurd (true≢false (sym w.if-is_err.true ∙ sym w.value-is ∙ c.if-other_header.false))
      | else-is_err w ↦
          part_sorts _ _ c.check.result c.check.ensures c.is_err.ensures.value w.if-is_err.false w.other_header.ensures (sym w.value-is ∙ c.if-other_header.false) c.other_sorts.ensures
    ]
