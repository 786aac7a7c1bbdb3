-- With the limit 1,024 the promises of a run and an edit are the former ones: an answer and buffers satisfy the one exactly where its first four numbers and the
-- buffers satisfy the other, whose fifth number is the one that is answered.
use Prim.Native.Nat.{ℕ}
use mathlib.Core.Path.{◌≡◌, refl, ap, ap₂, sym, ◌∙◌}
use mathlib.Core.Bool.{true, false, cond}
use mathlib.Core.List.{List, [], ◌∷◌, ◌++◌, append-nil}
use Rattle.basis.specs.Reason.{Reason, ◌when◌, first}
use Rattle.basis.proofs.Pick.{test_case}
use Rattle.table.specs.Verdict.{Verdict}
use Rattle.table.specs.Refusals.{rows, given, accepted, check_rows}
use Rattle.term.specs.Result.{removed_rows}
use Rattle.term.specs.Bytes.{look, edited}
use Rattle.term.proofs.Acceptable.{same_rows}
use Rattle.judge.specs.Verdict.{is_accepted}
use Rattle.judge.specs.Run.{room_reasons, limit_reasons, run_reasons, run_verdict}
use Rattle.judge.specs.Kept.{kept_part, kept_verdict}
use Rattle.judge.specs.Edit.{edit_reasons}
use Rattle.simplify.specs.declared.Answer.{Answer}
use Rattle.simplify.specs.Answer.{answer, if_accepted, answered}
use Rattle.simplify.specs.Run.{fresh_rows, fresh_bytes, fresh_removed, run_answer, run_result, Ran}
use Rattle.simplify.specs.Edit.{edit_verdict, edited_rows, edited_bytes, edited_removed, edit_answer, edit_table, edit_kept, Edited}
use Rattle.demands.specs.Former.{Four, four_of}
use Rattle.demands.specs.Former as former
use Rattle.demands.proofs.Demand3.{edited_head}

-- lists of reasons that give one number, behind others
first_behind : (before later later' : List Reason) → first later ≡ first later' → first (before ++ later) ≡ first (before ++ later')
unfolding first
first_behind [] later later' e = e
first_behind ((n when t) ∷ before) later later' e = ap (cond t n) (first_behind before later later' e)

-- four numbers and a fifth make an answer
with_compared : Four → ℕ → Answer
with_compared f compared = answer f.refusal f.row f.removed f.touched compared

answers_same : (a b : Answer) → four_of a ≡ four_of b → a.compared ≡ b.compared → a ≡ b
unfolding with_compared answer four_of
answers_same a b four fifth = ap₂ with_compared four fifth

-- ---- a run

module _ (t buffer : List ℕ) where
  verdict_as_before : run_verdict t buffer 1024 ≡ former.run_verdict t buffer
  unfolding run_verdict run_reasons limit_reasons former.run_verdict first
  verdict_as_before =
      ap (λ (n : ℕ). given n 0 (check_rows t accepted))
      (first_behind (room_reasons t buffer) (limit_reasons 1024) [] refl ∙ ap first (append-nil (room_reasons t buffer)))

  answer_as_before : four_of (run_answer t buffer 1024) ≡ former.run_answer t buffer
  unfolding run_answer answered if_accepted answer fresh_removed fresh_rows four_of former.run_answer former.answered former.fresh_rows
  answer_as_before = ap (λ (v : Verdict). former.answered v (removed_rows (look t) (fresh_rows 1024 t) (rows t)) (rows t)) verdict_as_before

  result_as_before : run_result t buffer 1024 ≡ former.run_result t buffer
  unfolding run_result fresh_bytes fresh_rows former.run_result former.fresh_bytes former.fresh_rows
  result_as_before = ap (λ (v : Verdict). cond (is_accepted v) (fresh_bytes 1024 t buffer) buffer) verdict_as_before

  pub run_as_before : {a : Answer} {left : List ℕ} → Ran t buffer 1024 a left → former.Ran t buffer (four_of a) left
  run_as_before p = record { answer_is = ap four_of p.answer_is ∙ answer_as_before; result_is = p.result_is ∙ result_as_before }

  pub before_as_run : {a : Answer} {left : List ℕ} → former.Ran t buffer (four_of a) left → a.compared ≡ (run_answer t buffer 1024).compared → Ran t buffer 1024 a left
  before_as_run p fifth =
      record {
        answer_is = answers_same _ _ (p.answer_is ∙ sym answer_as_before) fifth;
        result_is = p.result_is ∙ sym result_as_before;
      }

-- ---- an edit

module _ (t kept : List ℕ) (r : ℕ) (new : List ℕ) where
  abbrev e : List ℕ
  e = edited t r new

  edit_verdict_as_before : edit_verdict t kept r new 1024 ≡ former.edit_verdict t kept r new
  unfolding edit_verdict edit_reasons limit_reasons former.edit_verdict former.edit_reasons first
  edit_verdict_as_before =
      ap (λ (n : ℕ). given n 0 (check_rows e (kept_verdict e (kept_part t kept) accepted))) (first_behind (room_reasons t kept) _ _ refl)

  edit_answer_as_before : four_of (edit_answer t kept r new 1024) ≡ former.edit_answer t kept r new
  unfolding edit_answer answered if_accepted answer edited_removed edited_rows four_of former.edit_answer former.answered former.edited_rows
  edit_answer_as_before =
      test_case (is_accepted (edit_verdict t kept r new 1024))
      (λ (h : is_accepted (edit_verdict t kept r new 1024) ≡ true).
      rw (← edit_verdict_as_before, same_rows e t (edited_head t kept r new 1024 h)))
      (λ (h : is_accepted (edit_verdict t kept r new 1024) ≡ false). rw (← edit_verdict_as_before, h))

  table_as_before : edit_table t kept r new 1024 ≡ former.edit_table t kept r new
  unfolding edit_table former.edit_table
  table_as_before = ap (λ (v : Verdict). cond (is_accepted v) e t) edit_verdict_as_before

  kept_as_before : edit_kept t kept r new 1024 ≡ former.edit_kept t kept r new
  unfolding edit_kept edited_bytes edited_rows former.edit_kept former.edited_bytes former.edited_rows
  kept_as_before = ap (λ (v : Verdict). cond (is_accepted v) (edited_bytes 1024 t e r kept) kept) edit_verdict_as_before

  pub edit_as_before : {a : Answer} {table left : List ℕ} → Edited t kept r new 1024 a table left → former.Edited t kept r new (four_of a) table left
  edit_as_before p =
      record {
        answer_is = ap four_of p.answer_is ∙ edit_answer_as_before;
        table_is = p.table_is ∙ table_as_before;
        kept_is = p.kept_is ∙ kept_as_before;
      }

  pub before_as_edit : {a : Answer} {table left : List ℕ} → former.Edited t kept r new (four_of a) table left → a.compared ≡ (edit_answer t kept r new 1024).compared →
      Edited t kept r new 1024 a table left
  before_as_edit p fifth =
      record {
        answer_is = answers_same _ _ (p.answer_is ∙ sym edit_answer_as_before) fifth;
        table_is = p.table_is ∙ sym table_as_before;
        kept_is = p.kept_is ∙ sym kept_as_before;
      }
