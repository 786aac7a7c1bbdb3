-- The refusals of a question, given exactly when: 1 to 7 in their order, then 9 to 15 and 18 of the first faulty row, then 16, then 14 for the first
-- number that names an array row; accepted exactly when none holds.
use Prim.Native.Nat.{ℕ, ◌≤◌, ◌<◌}
use native.Mathlib.Omega.{arith}
use mathlib.Core.Path.{◌≡◌, ◌∙◌}
use mathlib.Core.Bool.{Bool, true, false, ◌||◌}
use mathlib.Core.List.{List}
use lib.ListN.{length}
use lib.Dec.{leb}
use borrow.Author.Tests.{leb-false, lt-leb}
use Rattle.basis.specs.Reason.{first}
use Rattle.basis.proofs.Pick.{test_case, or_false, or_left, or_right}
use Rattle.table.specs.Refusals.{rows, refuse, accepted, given, check_table}
use Rattle.term.specs.Term.{is_array}
use Rattle.term.specs.Bytes.{look}
use Rattle.judge.specs.Verdict.{is_accepted}
use Rattle.judge.specs.Kept.{kept_part, kept_wrong, kept_verdict}
use Rattle.judge.specs.Ask.{pair_reasons, array_reasons, array_verdict}
use Rattle.judge.proofs.Right.{kept_goes, kept_stops}
use Rattle.question.specs.Ask.{ask_verdict}
use Rattle.demands.proofs.Judged.{Judged, refused, granted, judged_case, only_granted, only_refused}
use Rattle.demands.proofs.Before.{Before, Passed, stops, passes, begun}

-- 7
abbrev pub beyond : List ℕ → ℕ → ℕ → Bool
beyond t x y = leb (rows t) x || leb (rows t) y

-- none of 1 to 7, of 9 to 15 and of 18 holds
pub record PairAsked (t kept : List ℕ) (x y : ℕ) : Type 0 where
  pub table : check_table t ≡ accepted
  pub room : length t ≤ length kept
  pub first_row : x < rows t
  pub second_row : y < rows t

-- nor does 16
pub record PairKept (t kept : List ℕ) (x y : ℕ) : Type 0 where
  pub asked : PairAsked t kept x y
  pub right : kept_wrong t (kept_part t kept) ≡ false

-- none of all holds
pub record AskGranted (t kept : List ℕ) (x y : ℕ) : Type 0 where
  pub there : PairKept t kept x y
  pub first_word : is_array (look t x) ≡ false
  pub second_word : is_array (look t y) ≡ false

-- a number is given, with a row
pub data AskRefused (t kept : List ℕ) (x y : ℕ) : ℕ → ℕ → Type 0 where
  -- 1 to 7, then 9 to 15 and 18
  before : {number row : ℕ} → Before t kept (beyond t x y) number row → AskRefused t kept x y number row
  -- 16, where none of them holds: the kept result does not go with the table
  wrong_kept : PairAsked t kept x y → kept_wrong t (kept_part t kept) ≡ true → AskRefused t kept x y 16 0
  -- 14, where 16 does not hold either: row x is an array, or else row y
  first_array : PairKept t kept x y → is_array (look t x) ≡ true → AskRefused t kept x y 14 x
  second_array : PairKept t kept x y → is_array (look t x) ≡ false → is_array (look t y) ≡ true → AskRefused t kept x y 14 y

module _ (t kept : List ℕ) (x y : ℕ) where
  asked : Passed t kept (beyond t x y) → PairAsked t kept x y
  asked p =
      record {
        table = p.table;
        room = p.room;
        first_row = leb-false (rows t) x (or_left (leb (rows t) x) (leb (rows t) y) p.within);
        second_row = leb-false (rows t) y (or_right (leb (rows t) x) (leb (rows t) y) p.within);
      }

  -- what decides then: 16 and 14
  asked_on : PairAsked t kept x y → ask_verdict t kept x y ≡ kept_verdict t (kept_part t kept) (array_verdict t x y)
  unfolding ask_verdict pair_reasons
  asked_on a =
      passes t kept (beyond t x y)
      (record { table = a.table; room = a.room; within = or_false _ _ (lt-leb (rows t) x a.first_row) (lt-leb (rows t) y a.second_row) }) _

  kept_on : PairKept t kept x y → ask_verdict t kept x y ≡ array_verdict t x y
  kept_on k = asked_on k.asked ∙ kept_goes t (kept_part t kept) (array_verdict t x y) k.right

  pub grant_ask : AskGranted t kept x y → ask_verdict t kept x y ≡ accepted
  unfolding array_verdict array_reasons given first
  grant_ask g = kept_on g.there ∙ rw (g.first_word, g.second_word)

  pub refusal_ask : (number row : ℕ) → (number ≡ 0 → ⊥) → AskRefused t kept x y number row → ask_verdict t kept x y ≡ refuse number row
  unfolding ask_verdict pair_reasons array_verdict array_reasons given first
  refusal_ask number row some (before h) = stops t kept (beyond t x y) number row some h _
  refusal_ask number row some (wrong_kept a e) = asked_on a ∙ kept_stops t (kept_part t kept) (array_verdict t x y) e
  refusal_ask number row some (first_array k e) = kept_on k ∙ rw e
  refusal_ask number row some (second_array k n e) = kept_on k ∙ rw (n, e)

  -- every question is refused or granted
  judged_kept : PairKept t kept x y → Judged (AskRefused t kept x y) (AskGranted t kept x y)
  judged_kept k =
      test_case (is_array (look t x))
      (λ e. refused 14 x (λ z. absurd (omega (arith, z))) (first_array k e))
      (λ n.
      test_case (is_array (look t y))
      (λ e. refused 14 y (λ z. absurd (omega (arith, z))) (second_array k n e))
      (λ m. granted (record { there = k; first_word = n; second_word = m })))

  judged_asked : PairAsked t kept x y → Judged (AskRefused t kept x y) (AskGranted t kept x y)
  judged_asked a =
      test_case (kept_wrong t (kept_part t kept))
      (λ e. refused 16 0 (λ z. absurd (omega (arith, z))) (wrong_kept a e))
      (λ n. judged_kept (record { asked = a; right = n }))

  judged : Judged (AskRefused t kept x y) (AskGranted t kept x y)
  judged = judged_case (begun t kept (beyond t x y)) (λ number row some h. refused number row some (before h)) (λ p. judged_asked (asked p))

  -- and the other way round
  pub ask_granted : is_accepted (ask_verdict t kept x y) ≡ true → AskGranted t kept x y
  ask_granted = only_granted _ _ _ refusal_ask judged

  pub given_ask : (number row : ℕ) → (number ≡ 0 → ⊥) → ask_verdict t kept x y ≡ refuse number row → AskRefused t kept x y number row
  given_ask = only_refused _ _ _ refusal_ask judged grant_ask
