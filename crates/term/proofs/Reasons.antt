-- Reasons: what is known of two rows is known by the reason; what each one says of the rows; and a shared base is named before ranges.
use Prim.Native.Nat.{ℕ}
use mathlib.Core.Path.{◌≡◌, refl, sym, ◌∙◌}
use mathlib.Core.Bool.{Bool, true, false, cond, ◌&&◌, ◌||◌, true≢false}
use lib.Dec.{eqb}
use borrow.Author.Tests.{eqb-true, eqb-false, ne_eqb}
use Rattle.basis.proofs.Pick.{pick_case, pick_true, pick_false}
use Rattle.range.specs.declared.Range.{Range}
use Rattle.range.specs.Range.{disjoint}
use Rattle.term.specs.declared.Relation.TheVariants.{Same, Apart, Unknown}
use Rattle.term.specs.declared.Spans.{Spans}
use Rattle.term.specs.declared.Reason.{Reason}
use Rattle.term.specs.declared.Reason.TheVariants.{SamePlace, Offsets, Separate, Undecided}
use Rattle.term.specs.Term.{Term}
use Rattle.term.specs.Base.{base, offset, same_base}
use Rattle.term.specs.Relation.{related}
use Rattle.term.specs.Reason.{reason, known_by}
use Rattle.term.proofs.Bases.{same_base_lem, base_same}

-- by the outcomes of the three tests
known_by_tests : (shared equal apart : Bool) (p q : ℕ) (ranges : Spans) →
    cond (shared && equal) Same (cond (shared || apart) Apart Unknown) ≡
    known_by (cond shared (cond equal SamePlace (Offsets p q)) (cond apart (Separate ranges) Undecided))
unfolding known_by
known_by_tests true true apart p q ranges = refl
known_by_tests true false apart p q ranges = refl
known_by_tests false equal true p q ranges = refl
known_by_tests false equal false p q ranges = refl

module _ (f : ℕ → Term) (g : ℕ → Range) (x y : ℕ) where
  -- what is known of two rows is known by the reason
  pub related_reason : related f g x y ≡ known_by (reason f g x y)
  unfolding related reason
  related_reason =
      known_by_tests (same_base (base f x) (base f y)) (eqb (offset f x) (offset f y)) (disjoint (g x) (g y)) _ _ _

  -- a shared base is the reason named, whether or not the ranges are apart too
  pub shared_base_named : same_base (base f x) (base f y) ≡ true → (offset f x ≡ offset f y → ⊥) → reason f g x y ≡ Offsets (offset f x) (offset f y)
  unfolding reason
  shared_base_named shared differ = pick_true _ _ _ shared ∙ pick_false _ _ _ (ne_eqb _ _ differ)

  -- what a reason says of the rows x and y and of their ranges
  abbrev pub Grounds : Reason → Type 0
  Grounds SamePlace = (base f x ≡ base f y) × (offset f x ≡ offset f y)
  Grounds (Offsets p q) = (base f x ≡ base f y) × (p ≡ offset f x) × (q ≡ offset f y) × (p ≡ q → ⊥)
  Grounds (Separate s) = (base f x ≡ base f y → ⊥) × (s.store ≡ g x) × (s.read ≡ g y) × (disjoint s.store s.read ≡ true)
  Grounds Undecided = (base f x ≡ base f y → ⊥) × (disjoint (g x) (g y) ≡ false)

  other_base : same_base (base f x) (base f y) ≡ false → base f x ≡ base f y → ⊥
  other_base n e = true≢false (sym (base_same _ _ e) ∙ n)

  pub reason_grounds : Grounds (reason f g x y)
  unfolding reason
  reason_grounds =
      pick_case Grounds (same_base (base f x) (base f y))
      (λ s.
      pick_case Grounds (eqb (offset f x) (offset f y))
      (λ t. (same_base_lem _ _ s, eqb-true _ _ t))
      (λ t. (same_base_lem _ _ s, refl, refl, eqb-false _ _ t)))
      (λ s. pick_case Grounds (disjoint (g x) (g y)) (λ t. (other_base s, refl, refl, t)) (λ t. (other_base s, t)))

-- rows and ranges that agree at x and y give the same reason
module _ (f f' : ℕ → Term) (g g' : ℕ → Range) (x y : ℕ) (p : f x ≡ f' x) (q : f y ≡ f' y) (r : g x ≡ g' x) (s : g y ≡ g' y) where
  pub reason_agree : reason f g x y ≡ reason f' g' x y
  unfolding reason base offset
  reason_agree = rw (p, q, r, s)
