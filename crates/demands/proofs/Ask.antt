-- Document 02, A6, of bytes: a question about the table's own kept result, made with any one limit, is answered as document 01's comparison, which makes a run
-- of its own with that limit. So a run and then a question are that comparison, for every input, refusals among them; and so is a question after any number of
-- accepted edits with that limit.
use Prim.Native.Nat.{ℕ, ◌≤◌}
use mathlib.Core.Path.{◌≡◌, refl, ap, sym, ◌∙◌}
use mathlib.Core.Bool.{true, false}
use mathlib.Core.List.{List}
use lib.ListN.{length}
use borrow.Author.Tests.{ne_eqb}
use Rattle.basis.specs.Reason.{first}
use Rattle.basis.proofs.Pick.{pick_case, pick_true, pick_false}
use Rattle.table.specs.Verdict.{Verdict}
use Rattle.table.specs.Refusals.{refuse, given, check_rows}
use Rattle.term.specs.Relation.{range_of}
use Rattle.term.specs.Reason.{reason}
use Rattle.judge.specs.Verdict.{is_accepted}
use Rattle.judge.specs.Run.{LIMIT, room_reasons, run_verdict}
use Rattle.judge.specs.Ask.{pair_reasons, array_verdict}
use Rattle.judge.proofs.Granted.{grant_run}
use Rattle.judge.proofs.Right.{kept_goes}
use Rattle.simplify.specs.Answer.{modulus, answer}
use Rattle.simplify.specs.Run.{fresh_rows, run_result}
use Rattle.simplify.proofs.FreshRun.{fresh_length}
use Rattle.question.specs.Ask.{ask_verdict, kept_rows, ask_relation, ask_reason, ask_answer}
use Rattle.demands.specs.Own.{Own, Edits}
use Rattle.demands.specs.Compare.{compare_verdict, fresh_relation, compare_relation}
use Rattle.demands.proofs.Judged.{judged_case}
use Rattle.demands.proofs.Before.{Before, Passed, stops, begun}
use Rattle.demands.proofs.AskRefusals.{beyond}
use Rattle.demands.proofs.Owned.{part_rows, part_goes}
use Rattle.demands.proofs.Demand1.{ask_counts_nothing, ask_tells_nothing}
use Rattle.demands.proofs.Demand3.{run_owned, edits_owned}

-- ---- with the table's own kept result

module _ {limit : ℕ} (t kept : List ℕ) (own : Own limit t kept) (x y : ℕ) where
  -- 16 is never given
  pub own_verdict : ask_verdict t kept x y ≡ compare_verdict t kept x y
  unfolding ask_verdict compare_verdict
  own_verdict = ap (λ (v : Verdict). given (first (pair_reasons t kept x y)) 0 (check_rows t v)) (kept_goes t _ _ (part_goes t kept own))

  pub own_relation : ask_relation t kept x y ≡ compare_relation limit t kept x y
  unfolding ask_relation compare_relation fresh_relation kept_rows
  own_relation = rw (own_verdict, part_rows t kept own)

  -- the reason is that of the fresh result's rows
  pub own_reason : is_accepted (ask_verdict t kept x y) ≡ true → ask_reason t kept x y ≡ reason (fresh_rows limit t) (range_of (modulus t) (fresh_rows limit t)) x y
  unfolding ask_reason kept_rows
  own_reason granted = pick_true _ _ _ granted ∙ rw (part_rows t kept own)

-- after any number of accepted edits with that limit that began from the table's own kept result
module _ {limit : ℕ} {t kept t' kept' : List ℕ} (edits : Edits limit t kept t' kept') (own : Own limit t kept) (x y : ℕ) where
  pub edits_then_verdict : ask_verdict t' kept' x y ≡ compare_verdict t' kept' x y
  edits_then_verdict = own_verdict t' kept' (edits_owned edits own) x y

  pub edits_then_relation : ask_relation t' kept' x y ≡ compare_relation limit t' kept' x y
  edits_then_relation = own_relation t' kept' (edits_owned edits own) x y

-- ---- a run with any limit that is accepted, and then a question

module _ (t buffer : List ℕ) (limit : ℕ) (few : limit ≤ LIMIT) (x y : ℕ) where
  -- what is asked of a buffer is asked of its length, which a run leaves as it is
  left_long : length (run_result t buffer limit) ≡ length buffer
  unfolding run_result
  left_long = pick_case (λ (l : List ℕ). length l ≡ length buffer) (is_accepted (run_verdict t buffer limit)) (λ h. fresh_length limit t buffer) (λ h. refl)

  by_length : compare_verdict t (run_result t buffer limit) x y ≡ compare_verdict t buffer x y
  unfolding compare_verdict pair_reasons room_reasons
  by_length = rw left_long

  -- a faulty table, too short a buffer or a number that is not below n: the question is refused before the kept result is looked at
  same_refusal : (number row : ℕ) → (number ≡ 0 → ⊥) → Before t buffer (beyond t x y) number row →
      ask_verdict t (run_result t buffer limit) x y ≡ compare_verdict t buffer x y
  unfolding ask_verdict compare_verdict pair_reasons room_reasons
  same_refusal number row some h =
      rw left_long (stops t buffer (beyond t x y) number row some h _ ∙ sym (stops t buffer (beyond t x y) number row some h _))

  compare_refused : (number row : ℕ) → (number ≡ 0 → ⊥) → Before t buffer (beyond t x y) number row → is_accepted (compare_verdict t buffer x y) ≡ false
  unfolding compare_verdict pair_reasons is_accepted refuse
  compare_refused number row some h = rw (stops t buffer (beyond t x y) number row some h (array_verdict t x y)) (ne_eqb number 0 some)

  -- else the run is accepted
  left_own : Passed t buffer (beyond t x y) → Own limit t (run_result t buffer limit)
  left_own p = run_owned t buffer limit (grant_run t buffer limit p.table p.room few)

  pub run_then_verdict : ask_verdict t (run_result t buffer limit) x y ≡ compare_verdict t buffer x y
  run_then_verdict =
      judged_case (begun t buffer (beyond t x y)) same_refusal (λ p. own_verdict t (run_result t buffer limit) (left_own p) x y ∙ by_length)

  pub run_then_numbers : (ask_answer t (run_result t buffer limit) x y).answer ≡ answer (compare_verdict t buffer x y).number (compare_verdict t buffer x y).row 0 0 0
  run_then_numbers = ask_counts_nothing t (run_result t buffer limit) x y ∙ ap (λ (v : Verdict). answer v.number v.row 0 0 0) run_then_verdict

  pub run_then_relation : ask_relation t (run_result t buffer limit) x y ≡ compare_relation limit t buffer x y
  unfolding compare_relation
  run_then_relation =
      judged_case (begun t buffer (beyond t x y))
      (λ number row some h.
      let refused : is_accepted (compare_verdict t buffer x y) ≡ false = compare_refused number row some h in
      ask_tells_nothing t (run_result t buffer limit) x y (ap is_accepted run_then_verdict ∙ refused) ∙ sym (pick_false _ _ _ refused))
      (λ p. own_relation t (run_result t buffer limit) (left_own p) x y ∙ rw by_length)
