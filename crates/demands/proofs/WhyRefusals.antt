-- The refusals of `why`, given exactly when: 1 to 7 in their order, then 9 to 15 and 18 of the first faulty row, then 17, then 22; accepted exactly when none holds.
use Prim.Native.Nat.{ℕ, ◌≤◌, ◌<◌}
use native.Mathlib.Omega.{arith}
use mathlib.Core.Path.{◌≡◌, ap, ◌∙◌}
use mathlib.Core.Bool.{true, false, not}
use mathlib.Core.List.{List, []}
use lib.ListN.{length}
use lib.Dec.{leb, ltb}
use borrow.Author.Tests.{leb-false, lt-leb, le-ltb, lt-ltb, ltb-true, ltb-false}
use Rattle.basis.specs.Reason.{first}
use Rattle.basis.proofs.Pick.{test_case}
use Rattle.basis.proofs.Reasons.{first_here, first_skips}
use Rattle.table.specs.Refusals.{rows, refuse, accepted, given, check_table}
use Rattle.table.proofs.Faulty.{given_passes}
use Rattle.term.specs.Term.{is_read}
use Rattle.term.specs.Bytes.{look}
use Rattle.judge.specs.Verdict.{is_accepted}
use Rattle.explanation.specs.Why.{list_of, row_reasons, read_reasons, space_reasons, why_verdict}
use Rattle.demands.proofs.Judged.{Judged, refused, granted, judged_case, only_granted, only_refused}
use Rattle.demands.proofs.Before.{Before, Passed, stops, passes, begun}

-- none of 1 to 7, of 9 to 15 and of 18 holds
pub record Asked (t buffer : List ℕ) (x : ℕ) : Type 0 where
  pub table : check_table t ≡ accepted
  pub room : length t ≤ length buffer
  pub row : x < rows t

-- none of all holds
pub record WhyGranted (t buffer : List ℕ) (x : ℕ) (space : List ℕ) : Type 0 where
  pub asked : Asked t buffer x
  pub reads : is_read (look t x) ≡ true
  pub fits : length (list_of t x) ≤ length space

-- a number is given, with a row
pub data WhyRefused (t buffer : List ℕ) (x : ℕ) (space : List ℕ) : ℕ → ℕ → Type 0 where
  -- 1 to 7, then 9 to 15 and 18
  before : {number row : ℕ} → Before t buffer (leb (rows t) x) number row → WhyRefused t buffer x space number row
  -- 17, where none of 1 to 15 holds: row x is no READ
  no_read : Asked t buffer x → is_read (look t x) ≡ false → WhyRefused t buffer x space 17 x
  -- 22, where row x is a READ: the list is longer than the space
  no_space : Asked t buffer x → is_read (look t x) ≡ true → length space < length (list_of t x) → WhyRefused t buffer x space 22 0

module _ (t buffer : List ℕ) (x : ℕ) where
  asked : Passed t buffer (leb (rows t) x) → Asked t buffer x
  asked p = record { table = p.table; room = p.room; row = leb-false (rows t) x p.within }

  module _ (a : Asked t buffer x) where
    -- what decides then: 17 and 22
    asked_on : (space : List ℕ) → why_verdict t buffer x space ≡ given (first (read_reasons t x)) x (given (first (space_reasons t x space)) 0 accepted)
    unfolding why_verdict row_reasons
    asked_on space =
        passes t buffer (leb (rows t) x) (record { table = a.table; room = a.room; within = lt-leb (rows t) x a.row }) _

    read_passes : is_read (look t x) ≡ true → first (read_reasons t x) ≡ 0
    unfolding read_reasons first
    read_passes e = first_skips 17 (not (is_read (look t x))) [] (ap not e)

    -- none of 1 to 15 holds, but a later reason
    other_refused : (space : List ℕ) → is_read (look t x) ≡ false → why_verdict t buffer x space ≡ refuse 17 x
    unfolding read_reasons given
    other_refused space e = asked_on space ∙ rw (first_here 17 (not (is_read (look t x))) [] (ap not e))

    short_refused : (space : List ℕ) → is_read (look t x) ≡ true → length space < length (list_of t x) → why_verdict t buffer x space ≡ refuse 22 0
    unfolding space_reasons given
    short_refused space e l =
        asked_on space ∙ rw (read_passes e) (rw (first_here 22 (ltb (length space) (length (list_of t x))) [] (lt-ltb (length space) (length (list_of t x)) l)))

module _ (t buffer : List ℕ) (x : ℕ) (space : List ℕ) where
  pub grant_why : WhyGranted t buffer x space → why_verdict t buffer x space ≡ accepted
  unfolding space_reasons first
  grant_why g =
      asked_on t buffer x g.asked space ∙ given_passes _ x _ (read_passes t buffer x g.asked g.reads) ∙
      given_passes _ 0 accepted (first_skips 22 (ltb (length space) (length (list_of t x))) [] (le-ltb (length space) (length (list_of t x)) g.fits))

  pub refusal_why : (number row : ℕ) → (number ≡ 0 → ⊥) → WhyRefused t buffer x space number row → why_verdict t buffer x space ≡ refuse number row
  unfolding why_verdict row_reasons
  refusal_why number row some (before h) = stops t buffer (leb (rows t) x) number row some h _
  refusal_why number row some (no_read a e) = other_refused t buffer x a space e
  refusal_why number row some (no_space a e l) = short_refused t buffer x a space e l

  -- every question is refused or granted
  judged_asked : Asked t buffer x → Judged (WhyRefused t buffer x space) (WhyGranted t buffer x space)
  judged_asked a =
      test_case (is_read (look t x))
      (λ r.
      test_case (ltb (length space) (length (list_of t x)))
      (λ l. refused 22 0 (λ e. absurd (omega (arith, e))) (no_space a r (ltb-true _ _ l)))
      (λ l. granted (record { asked = a; reads = r; fits = ltb-false _ _ l })))
      (λ r. refused 17 x (λ e. absurd (omega (arith, e))) (no_read a r))

  judged : Judged (WhyRefused t buffer x space) (WhyGranted t buffer x space)
  judged =
      judged_case (begun t buffer (leb (rows t) x)) (λ number row some h. refused number row some (before h)) (λ p. judged_asked (asked t buffer x p))

  -- and the other way round
  pub why_granted : is_accepted (why_verdict t buffer x space) ≡ true → WhyGranted t buffer x space
  why_granted = only_granted _ _ _ refusal_why judged

  pub given_why : (number row : ℕ) → (number ≡ 0 → ⊥) → why_verdict t buffer x space ≡ refuse number row → WhyRefused t buffer x space number row
  given_why = only_refused _ _ _ refusal_why judged grant_why
