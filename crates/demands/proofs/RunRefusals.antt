-- The refusals of a run, given exactly when: 1 to 6 in their order, then 19, then 9 to 15 and 18 of the first faulty row. Accepted exactly when none holds:
-- `run_granted` and `grant_run` of judge. 19 with the row 0 is given exactly where none of 1 to 6 holds and the limit is above 1,024, and then nothing changes.
use Prim.Native.Nat.{ℕ, ◌<◌}
use native.Mathlib.Omega.{arith}
use mathlib.Core.Path.{◌≡◌, refl, ap, ◌∙◌}
use mathlib.Core.Bool.{Bool, true, false, not, ◌&&◌}
use mathlib.Core.List.{List, [], ◌∷◌, ◌++◌}
use mathlib.Core.Logic.{inl, inr}
use lib.Dec.{eqb, ltb}
use borrow.Author.Tests.{ltb-true, lt-ltb, not-true, eqb-false, ne_eqb}
use Rattle.basis.specs.Reason.{Reason, ◌when◌}
use Rattle.basis.proofs.Pick.{and_left, and_right}
use Rattle.basis.proofs.Reasons.{NoneHolds, FirstHolds, numbered, none_first, first_holds, first_here, append_skips}
use Rattle.row.specs.Bytes.{row_at}
use Rattle.table.specs.Verdict.{Verdict}
use Rattle.table.specs.Refusals.{refuse, accepted, head_reasons, row_reasons}
use Rattle.table.proofs.Exactly.{RowRefused}
use Rattle.judge.specs.Verdict.{is_accepted}
use Rattle.judge.specs.Run.{LIMIT, room_reasons, limit_reasons, run_reasons, run_verdict}
use Rattle.judge.proofs.Granted.{room_numbered, run_ready}
use Rattle.simplify.specs.Answer.{answer}
use Rattle.simplify.specs.Run.{run_answer, run_result}
use Rattle.demands.proofs.Judged.{only_refused}
use Rattle.demands.proofs.Scanned.{FirstGiven, early, by_row, NoneGiven, given_stops, given_goes, given_or_not}
use Rattle.demands.proofs.Demand1.{run_changes_nothing, run_counts_nothing}

-- ---- a number and the reasons that have it

-- no reason has the number
abbrev pub without : ℕ → List Reason → Bool
without n [] = true
without n ((m when t) ∷ later) = not (eqb m n) && without n later

-- then it is not given
pub never_given : (n : ℕ) (rs : List Reason) → without n rs ≡ true → FirstHolds n rs → ⊥
never_given n [] k h = h
never_given n ((m when t) ∷ later) k (inl h) = eqb-false m n (not-true (eqb m n) (and_left (not (eqb m n)) (without n later) k)) h.1
never_given n ((m when t) ∷ later) k (inr h) = never_given n later (and_right (not (eqb m n)) (without n later) k) h.1

-- where only the last has it, it is given where the last holds and none before
pub given_last : (n : ℕ) (rs : List Reason) (t : Bool) → without n rs ≡ true → FirstHolds n (rs ++ n when t ∷ []) → NoneHolds rs × (t ≡ true)
given_last n [] t k (inl h) = (tt, h.0)
given_last n [] t k (inr h) = absurd h.1
given_last n ((m when s) ∷ later) t k (inl h) =
    absurd (eqb-false m n (not-true (eqb m n) (and_left (not (eqb m n)) (without n later) k)) h.1)
given_last n ((m when s) ∷ later) t k (inr h) =
    let on = given_last n later t (and_right (not (eqb m n)) (without n later) k) h.1 in ((h.0, on.0), on.1)

-- 19 is the number of no fault of a row
pub row_never_19 : (t : List ℕ) (row : ℕ) → RowRefused t 19 row → ⊥
unfolding row_reasons
row_never_19 t row h = never_given 19 (row_reasons t row (row_at t row)) refl h.holds

-- ---- a run

module _ (t buffer : List ℕ) (limit : ℕ) where
  -- a number is given, with a row
  abbrev pub RunRefused : ℕ → ℕ → Type 0
  RunRefused = FirstGiven (run_reasons t buffer limit) t

  all_numbered : numbered (run_reasons t buffer limit) ≡ true
  unfolding run_reasons limit_reasons room_reasons head_reasons
  all_numbered = refl

  pub refusal_run : (number row : ℕ) → (number ≡ 0 → ⊥) → RunRefused number row → run_verdict t buffer limit ≡ refuse number row
  unfolding run_verdict
  refusal_run number row some h = given_stops (run_reasons t buffer limit) t number row some h accepted

  grant : NoneGiven (run_reasons t buffer limit) t → run_verdict t buffer limit ≡ accepted
  unfolding run_verdict
  grant g = given_goes (run_reasons t buffer limit) t g accepted

  -- and the other way round
  pub given_run : (number row : ℕ) → (number ≡ 0 → ⊥) → run_verdict t buffer limit ≡ refuse number row → RunRefused number row
  given_run =
      only_refused _ _ _ refusal_run
      (given_or_not (run_reasons t buffer limit) t all_numbered (λ z. (run_ready t buffer limit z).roomy.head)) grant

  -- ---- 19

  pub run_refused_limit : run_verdict t buffer limit ≡ refuse 19 0 → NoneHolds (room_reasons t buffer) × (LIMIT < limit)
  unfolding run_reasons limit_reasons room_reasons head_reasons
  run_refused_limit e = by (given_run 19 0 (λ z. absurd (omega (arith, z))) e)
    where
      by : RunRefused 19 0 → NoneHolds (room_reasons t buffer) × (LIMIT < limit)
      by (early h) = let last = given_last 19 (room_reasons t buffer) (ltb LIMIT limit) refl h in (last.0, ltb-true LIMIT limit last.1)
      by (by_row none h) = absurd (row_never_19 t 0 h)

  module _ (none : NoneHolds (room_reasons t buffer)) (above : LIMIT < limit) where
    pub run_limit_refused : run_verdict t buffer limit ≡ refuse 19 0
    unfolding run_verdict run_reasons limit_reasons
    run_limit_refused =
        given_stops (run_reasons t buffer limit) t 19 0 (λ z. absurd (omega (arith, z)))
        (early (first_holds 19 (run_reasons t buffer limit) (λ z. absurd (omega (arith, z)))
        (append_skips (room_reasons t buffer) (limit_reasons limit) (room_numbered t buffer) (none_first (room_reasons t buffer) none) ∙
        first_here 19 (ltb LIMIT limit) [] (lt-ltb LIMIT limit above)))) accepted

    refused : is_accepted (run_verdict t buffer limit) ≡ false
    unfolding is_accepted refuse
    refused = rw run_limit_refused (ne_eqb 19 0 (λ z. absurd (omega (arith, z))))

    pub run_limit_changes_nothing : run_result t buffer limit ≡ buffer
    run_limit_changes_nothing = run_changes_nothing t buffer limit refused

    pub run_limit_answer : run_answer t buffer limit ≡ answer 19 0 0 0 0
    unfolding refuse
    run_limit_answer = run_counts_nothing t buffer limit refused ∙ ap (λ (v : Verdict). answer v.number v.row 0 0 0) run_limit_refused
