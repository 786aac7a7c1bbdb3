-- `first` gives a number exactly when its reason is the first that holds, and 0 exactly when none does. Assumes nothing.
use mathlib.Core.Path.{◌≡◌, refl, sym, ◌∙◌}
use mathlib.Core.Bool.{Bool, true, false, not, ◌&&◌}
use mathlib.Core.List.{List, [], ◌∷◌, ◌++◌}
use mathlib.Core.Logic.{◌⊎◌, inl, inr}
use Prim.Native.Nat.{ℕ, zero, suc}
use lib.Dec.{eqb}
use lib.ListN.{take, drop}
use borrow.Author.Tests.{not-true, eqb-true, eqb-false}
use Rattle.basis.specs.Reason.{Reason, ◌when◌, first}
use Rattle.basis.proofs.Pick.{test_case, and_left, and_right}

-- on a list that is written out these compute to the tests' outcomes
abbrev pub NoneHolds : List Reason → Type 0
NoneHolds [] = Unit {0}
NoneHolds ((n when t) ∷ later) = (t ≡ false) × NoneHolds later

abbrev pub FirstHolds : ℕ → List Reason → Type 0
FirstHolds n [] = ⊥
FirstHolds n ((m when t) ∷ later) = ((t ≡ true) × (m ≡ n)) ⊎ ((t ≡ false) × FirstHolds n later)

-- no reason has the number 0
abbrev pub numbered : List Reason → Bool
numbered [] = true
numbered ((n when t) ∷ later) = not (eqb n 0) && numbered later

pub first_here : (n : ℕ) (t : Bool) (later : List Reason) → t ≡ true → first ((n when t) ∷ later) ≡ n
unfolding first
first_here n t later e = rw e

pub first_skips : (n : ℕ) (t : Bool) (later : List Reason) → t ≡ false → first ((n when t) ∷ later) ≡ first later
unfolding first
first_skips n t later e = rw e

pub none_first : (rs : List Reason) → NoneHolds rs → first rs ≡ 0
unfolding first
none_first [] h = refl
none_first ((n when t) ∷ later) h = first_skips n t later h.0 ∙ none_first later h.1

pub first_none : (rs : List Reason) → numbered rs ≡ true → first rs ≡ 0 → NoneHolds rs
unfolding first
first_none [] k e = tt
first_none ((n when true) ∷ later) k e =
    absurd (eqb-false n 0 (not-true (eqb n 0) (and_left (not (eqb n 0)) (numbered later) k)) e)
first_none ((n when false) ∷ later) k e = (refl, first_none later (and_right (not (eqb n 0)) (numbered later) k) e)

pub holds_first : (n : ℕ) (rs : List Reason) → FirstHolds n rs → first rs ≡ n
holds_first n [] h = absurd h
holds_first n ((m when t) ∷ later) (inl h) = first_here m t later h.0 ∙ h.1
holds_first n ((m when t) ∷ later) (inr h) = first_skips m t later h.0 ∙ holds_first n later h.1

pub first_holds : (n : ℕ) (rs : List Reason) → (n ≡ 0 → ⊥) → first rs ≡ n → FirstHolds n rs
unfolding first
first_holds n [] k e = k (sym e)
first_holds n ((m when true) ∷ later) k e = inl (refl, e)
first_holds n ((m when false) ∷ later) k e = inr (refl, first_holds n later k e)

-- the first n reasons and the rest: where none of the first holds the rest decides, else the first do
pub first_past : (n : ℕ) (rs : List Reason) → numbered (take n rs) ≡ true → first (take n rs) ≡ 0 → first rs ≡ first (drop n rs)
unfolding first
first_past zero rs k e = refl
first_past (suc n) [] k e = refl
first_past (suc n) ((m when true) ∷ later) k e =
    absurd (eqb-false m 0 (not-true (eqb m 0) (and_left (not (eqb m 0)) (numbered (take n later)) k)) e)
first_past (suc n) ((m when false) ∷ later) k e = first_past n later (and_right (not (eqb m 0)) (numbered (take n later)) k) e

pub first_within : (n : ℕ) (rs : List Reason) → (first (take n rs) ≡ 0 → ⊥) → first rs ≡ first (take n rs)
unfolding first
first_within zero rs h = absurd (h refl)
first_within (suc n) [] h = refl
first_within (suc n) ((m when true) ∷ later) h = refl
first_within (suc n) ((m when false) ∷ later) h = first_within n later h

-- reasons one list after another
pub append_skips : (xs ys : List Reason) → numbered xs ≡ true → first xs ≡ 0 → first (xs ++ ys) ≡ first ys
unfolding first
append_skips [] ys k e = refl
append_skips ((n when true) ∷ later) ys k e = absurd (eqb-false n 0 (not-true (eqb n 0) (and_left (not (eqb n 0)) (numbered later) k)) e)
append_skips ((n when false) ∷ later) ys k e = append_skips later ys (and_right (not (eqb n 0)) (numbered later) k) e

pub append_here : (xs ys : List Reason) → (first xs ≡ 0 → ⊥) → first (xs ++ ys) ≡ first xs
unfolding first
append_here [] ys h = absurd (h refl)
append_here ((n when true) ∷ later) ys h = refl
append_here ((n when false) ∷ later) ys h = append_here later ys h

pub append_first : (xs ys : List Reason) → first (xs ++ ys) ≡ 0 → first xs ≡ 0
append_first xs ys e =
    test_case (eqb (first xs) 0) (λ (t : eqb (first xs) 0 ≡ true). eqb-true (first xs) 0 t)
    (λ (t : eqb (first xs) 0 ≡ false). sym (append_here xs ys (eqb-false (first xs) 0 t)) ∙ e)

pub append_second : (xs ys : List Reason) → numbered xs ≡ true → first (xs ++ ys) ≡ 0 → first ys ≡ 0
append_second xs ys k e = sym (append_skips xs ys k (append_first xs ys e)) ∙ e
