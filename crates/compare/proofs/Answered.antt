-- The text of an answer: of an accepted question, whose table then has a head that passes, and of a refused one.
use Prim.Native.Nat.{ℕ, ◌+◌, ◌^◌, ◌≤◌}
use native.Mathlib.Omega.{arith}
use mathlib.Core.Path.{◌≡◌, sym, ap, ◌∙◌}
use mathlib.Core.Bool.{true, false}
use mathlib.Core.List.{List}
use lib.Dec.{eqb}
use lib.ListN.{length}
use borrow.Author.Tests.{ne_eqb}
use Rattle.basis.proofs.Reasons.{append_first}
use Rattle.row.specs.Names.{HEADER}
use Rattle.row.proofs.Places.{header_below}
use Rattle.table.specs.Refusals.{rows, width}
use Rattle.table.specs.Accepted.{GoodHead}
use Rattle.table.proofs.Heads.{good_head}
use Rattle.judge.specs.Verdict.{is_accepted}
use Rattle.judge.specs.Run.{LIMIT, room_reasons}
use Rattle.judge.specs.Ask.{pair_reasons}
use Rattle.judge.proofs.Verdicts.{accepted_is, given_number}
use Rattle.judge.proofs.Granted.{roomy}
use Rattle.simplify.specs.declared.Answer.{Answer}
use Rattle.simplify.specs.Answer.{modulus, answer}
use Rattle.simplify.specs.Run.{run_result, Ran}
use Rattle.question.specs.declared.Comparison.{Comparison}
use Rattle.question.specs.Ask.{ask_verdict, ask_reason, compared, ask_answer}
use Rattle.text.specs.Text.{Put}
use Rattle.text.proofs.Puts.{put_capped}
use Rattle.lines.specs.Lines.{refusal, SHORT}
use Rattle.compare.specs.Line.{line, answer_text, LONGEST}

-- of a comparison over any kept result
module _ (t kept : List ℕ) (x y : ℕ) {c : Comparison} (asked : c ≡ ask_answer t kept x y) where
  refusal_is : c.answer.refusal ≡ (ask_verdict t kept x y).number
  unfolding ask_answer compared answer
  refusal_is = ap (λ (d : Comparison). d.answer.refusal) asked

  row_is : c.answer.row ≡ (ask_verdict t kept x y).row
  unfolding ask_answer compared answer
  row_is = ap (λ (d : Comparison). d.answer.row) asked

  why_is : c.why ≡ ask_reason t kept x y
  unfolding ask_answer compared
  why_is = ap (λ (d : Comparison). d.why) asked

  head : c.answer.refusal ≡ 0 → GoodHead t
  unfolding ask_verdict pair_reasons
  head z = good_head t (roomy t kept (append_first (room_reasons t kept) _ (given_number _ 0 _ (sym refusal_is ∙ z)))).head

  pub answered_long : c.answer.refusal ≡ 0 → HEADER ≤ length t
  answered_long z = rw (head z).size (header_below (rows t))

  pub answered_wide : c.answer.refusal ≡ 0 → width t ≤ 64
  answered_wide z = (head z).width_high

  -- over the result of a run
  module _ (buffer : List ℕ) {ran : Answer} (left : Ran t buffer LIMIT ran kept) {l m : List ℕ} {r : ℕ} where
    pub refusal_written : (c.answer.refusal ≡ 0 → ⊥) → Put l 0 (refusal c.answer.refusal c.answer.row) SHORT m r
        → Put l 0 (answer_text t (run_result t buffer LIMIT) x y) LONGEST m r
    unfolding answer_text is_accepted
    refusal_written some done =
        let no : eqb (ask_verdict t kept x y).number 0 ≡ false = ne_eqb _ 0 (λ z. some (refusal_is ∙ z)) in
        rw (← left.result_is, no, ← refusal_is, ← row_is) (put_capped done (omega arith))

    pub line_written : c.answer.refusal ≡ 0 → (top : ℕ) → top + 1 ≡ 2 ^ width t → Put l 0 (line (top + 1) x y c.why) LONGEST m r
        → Put l 0 (answer_text t (run_result t buffer LIMIT) x y) LONGEST m r
    unfolding answer_text modulus
    line_written z top is done =
        let yes : is_accepted (ask_verdict t kept x y) ≡ true = accepted_is _ (sym refusal_is ∙ z) in
        rw (← left.result_is, yes, ← is, ← why_is) done
