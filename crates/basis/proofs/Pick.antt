-- Picks by a test, tests joined, and the smaller and larger of two: `cond`, `&&`, `||`, `min`, `max`. Assumes nothing.
use Prim.Native.Nat.{ℕ, min, max, ◌≤◌}
use native.Mathlib.Nat.{le_of_lt, lt_of_not-le, min-eq_left, min-eq_right, max-eq_left, max-eq_right}
use native.Mathlib.Decide.{dec_le}
use mathlib.Core.Path.{◌≡◌, refl, sym, subst}
use mathlib.Core.Logic.{dite}
use mathlib.Core.Bool.{Bool, true, false, cond, ◌&&◌, ◌||◌, true≢false, false≢true}

-- a test passes or fails
pub test_case {κ} : {C : Type κ} (t : Bool) → (t ≡ true → C) → (t ≡ false → C) → C
test_case true p q = p refl
test_case false p q = q refl

module _ {ℓ} {A : Type ℓ} where
  -- what holds of each value under its outcome of the test holds of the one picked
  pub pick_case {κ} : (P : A → Type κ) (t : Bool) {x y : A} → (t ≡ true → P x) → (t ≡ false → P y) → P (cond t x y)
  pick_case P true p q = p refl
  pick_case P false p q = q refl

  pub pick_true : (t : Bool) (x y : A) → t ≡ true → cond t x y ≡ x
  pick_true t x y e = rw e

  pub pick_false : (t : Bool) (x y : A) → t ≡ false → cond t x y ≡ y
  pick_false t x y e = rw e

pub and_true : (s t : Bool) → s ≡ true → t ≡ true → (s && t) ≡ true
and_true s t p q = rw (p, q)

pub and_false_left : (s t : Bool) → s ≡ false → (s && t) ≡ false
and_false_left s t p = rw p

pub and_false_right : (s t : Bool) → t ≡ false → (s && t) ≡ false
and_false_right true t p = p
and_false_right false t p = refl

pub and_left : (s t : Bool) → (s && t) ≡ true → s ≡ true
and_left true t e = refl
and_left false t e = e

pub and_right : (s t : Bool) → (s && t) ≡ true → t ≡ true
and_right true t e = e
and_right false t e = absurd (false≢true e)

pub and_case {κ} : {C : Type κ} (s t : Bool) → (s && t) ≡ false → (s ≡ false → C) → (t ≡ false → C) → C
and_case true t e p q = q e
and_case false t e p q = p refl

pub or_none : (t : Bool) → (t || false) ≡ t
or_none true = refl
or_none false = refl

pub or_true_left : (s t : Bool) → s ≡ true → (s || t) ≡ true
or_true_left s t p = rw p

pub or_true_right : (s t : Bool) → t ≡ true → (s || t) ≡ true
or_true_right true t p = refl
or_true_right false t p = p

pub or_false : (s t : Bool) → s ≡ false → t ≡ false → (s || t) ≡ false
or_false s t p q = rw (p, q)

pub or_left : (s t : Bool) → (s || t) ≡ false → s ≡ false
or_left true t e = e
or_left false t e = refl

pub or_right : (s t : Bool) → (s || t) ≡ false → t ≡ false
or_right true t e = absurd (true≢false e)
or_right false t e = e

pub or_case {κ} : {C : Type κ} (s t : Bool) → (s || t) ≡ true → (s ≡ true → C) → (t ≡ true → C) → C
or_case true t e p q = p refl
or_case false t e p q = q e

-- picks by one test are equal where, under each outcome, what they pick is
pub pick_alike {ℓ} : {A : Type ℓ} (t : Bool) {x x' y y' : A} → (t ≡ true → x ≡ x') → (t ≡ false → y ≡ y') → cond t x y ≡ cond t x' y'
pick_alike true p q = p refl
pick_alike false p q = q refl

-- two picks that differ in what the failed test gives: what carries a property over from one to the other there, and what makes them equal there
pub pick-along {ℓ κ} : {A : Type ℓ} (P : A → Type κ) (t : Bool) (x : A) {y z : A} → (P y → P z) → P (cond t x y) → P (cond t x z)
pick-along P true x along p = p
pick-along P false x along p = along p

pub pick_under {ℓ κ} : {A : Type ℓ} (P : A → Type κ) (t : Bool) (x : A) {y z z' : A} → (P y → z ≡ z') → P (cond t x y) → cond t x z ≡ cond t x z'
pick_under P true x alike p = refl
pick_under P false x alike p = alike p

-- what holds of two numbers holds of the smaller, and of the larger
pub min_case : (P : ℕ → Type 0) (x y : ℕ) → P x → P y → P (min x y)
min_case P x y p q =
    dite (dec_le x y)
    (λ (l : x ≤ y). subst P (sym (min-eq_left l)) p)
    (λ (l : ¬ (x ≤ y)). subst P (sym (min-eq_right (le_of_lt (lt_of_not-le l)))) q)

pub max_case : (P : ℕ → Type 0) (x y : ℕ) → P x → P y → P (max x y)
max_case P x y p q =
    dite (dec_le x y)
    (λ (l : x ≤ y). subst P (sym (max-eq_right l)) q)
    (λ (l : ¬ (x ≤ y)). subst P (sym (max-eq_left (le_of_lt (lt_of_not-le l)))) p)
