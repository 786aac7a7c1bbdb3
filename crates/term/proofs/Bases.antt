-- Bases: the tests on them say what they are named after, and what a row opens to in each case.
use Prim.Native.Nat.{ℕ}
use mathlib.Core.Path.{◌≡◌, refl, sym, ◌∙◌, subst}
use mathlib.Core.Bool.{true, ◌&&◌, false≢true}
use mathlib.Core.List.{[], ◌∷◌}
use lib.Dec.{eqb}
use lib.ListN.{get_or}
use borrow.Author.Tests.{eqb-true, eq-eqb}
use Rattle.basis.proofs.Pick.{and_left, and_right}
use Rattle.term.specs.Term.{Term}
use Rattle.term.specs.Base.{Base, Nothing, One, Sum, Difference, Negative, shape_of, left_of, right_of, same_base, is_nothing, base, offset, open_row, open_offset, open_to, open_by}

-- the base of a shape that names x and y
base_by : ℕ → ℕ → ℕ → Base
base_by shape x y = get_or (Nothing ∷ Nothing ∷ Nothing ∷ One x ∷ Sum x y ∷ Difference x y ∷ Negative x ∷ []) shape Nothing

base_by_lem : (d : Base) → base_by (shape_of d) (left_of d) (right_of d) ≡ d
unfolding base_by shape_of left_of right_of
base_by_lem Nothing = refl
base_by_lem (One x) = refl
base_by_lem (Sum x y) = refl
base_by_lem (Difference x y) = refl
base_by_lem (Negative x) = refl

pub same_base_lem : (d e : Base) → same_base d e ≡ true → d ≡ e
unfolding same_base
same_base_lem d e h =
    let shape : shape_of d ≡ shape_of e = eqb-true (shape_of d) (shape_of e) (and_left _ _ (and_left _ _ h)) in
    let left : left_of d ≡ left_of e = eqb-true (left_of d) (left_of e) (and_right (eqb (shape_of d) (shape_of e)) _ (and_left _ _ h)) in
    let right : right_of d ≡ right_of e = eqb-true (right_of d) (right_of e) (and_right (eqb (shape_of d) (shape_of e) && eqb (left_of d) (left_of e)) _ h) in
    sym (base_by_lem d) ∙ (λ i. base_by (shape i) (left i) (right i)) ∙ base_by_lem e

pub base_same : (d e : Base) → d ≡ e → same_base d e ≡ true
unfolding same_base
base_same d e h =
    subst (λ (e' : Base). same_base d e' ≡ true) h
    (rw (eq-eqb (shape_of d) (shape_of d) refl, eq-eqb (left_of d) (left_of d) refl, eq-eqb (right_of d) (right_of d) refl))

pub is_nothing_lem : (d : Base) → is_nothing d ≡ true → d ≡ Nothing
unfolding is_nothing shape_of
is_nothing_lem Nothing h = refl
is_nothing_lem (One x) h = absurd (false≢true h)
is_nothing_lem (Sum x y) h = absurd (false≢true h)
is_nothing_lem (Difference x y) h = absurd (false≢true h)
is_nothing_lem (Negative x) h = absurd (false≢true h)

-- a row opens to y and its own offset where its base is one y, else to itself and 0
pub open_case : (P : ℕ → ℕ → Type 0) (f : ℕ → Term) (x : ℕ) →
    ((y : ℕ) → base f x ≡ One y → P y (offset f x)) → P x 0 → P (open_to f x) (open_by f x)
unfolding open_to open_by open_row open_offset
open_case P f x opened itself = go (base f x) refl
  where
    go : (d : Base) → base f x ≡ d → P (open_row x d) (open_offset d (offset f x))
    go Nothing e = itself
    go (One y) e = opened y e
    go (Sum y z) e = itself
    go (Difference y z) e = itself
    go (Negative y) e = itself
