-- A walk goes down: each array that it comes to stands below the one before. So it compares no more stores than there are rows from its first array
-- down, and where it may compare more than that it stops only where document 01 has it stop.
use Prim.Native.Nat.{ℕ, zero, suc, ◌≤◌, ◌<◌}
use native.Mathlib.Omega.{arith}
use mathlib.Core.Path.{◌≡◌, refl, subst}
use mathlib.Core.Bool.{true, false≢true}
use mathlib.Core.List.{List}
use Rattle.range.specs.declared.Range.{Range}
use Rattle.row.specs.Names.{WRITE}
use Rattle.term.specs.declared.Met.{Met}
use Rattle.term.specs.Term.{Term, const, var, shift, sum, diff, neg, read, fresh, write, row_of, is_array}
use Rattle.term.specs.Walk.{Walk, found, passed, undecided, ended, walk, compared}
use Rattle.term.specs.WellFormed.{Names, Below, WellFormed}
use Rattle.term.proofs.Follows.{Follows, finds, passes, stops, ends, spent, walk_follows, follows_only}

-- a walk that ended without a find, and not at an undecided store, ended at a FRESH
abbrev pub EndsAtFresh : (ℕ → Term) → Walk → Type 0
EndsAtFresh f (found m c) = Unit {0}
EndsAtFresh f (passed m onward) = EndsAtFresh f onward
EndsAtFresh f (undecided m) = Unit {0}
EndsAtFresh f (ended m) = f m ≡ fresh

-- an array that is no WRITE
is_fresh : (t : Term) → is_array t ≡ true → ((row_of t).kind ≡ WRITE → ⊥) → t ≡ fresh
unfolding is_array row_of
is_fresh (const k) e n = absurd (false≢true e)
is_fresh (var name k h) e n = absurd (false≢true e)
is_fresh (shift a k) e n = absurd (false≢true e)
is_fresh (sum a b k) e n = absurd (false≢true e)
is_fresh (diff a b k) e n = absurd (false≢true e)
is_fresh (neg a k) e n = absurd (false≢true e)
is_fresh (read a b) e n = absurd (false≢true e)
is_fresh fresh e n = refl
is_fresh (write a b c) e n = absurd (n refl)

module _ (M : ℕ) (f : ℕ → Term) (g : ℕ → Range) (i : ℕ) (formed : WellFormed M f) where
  -- what a store stands on: an array below it
  onto : (m a b c : ℕ) → f m ≡ write a b c → Below f m true a
  onto m a b c e = (subst (Names (Below f m)) e (formed.names m)).0

  pub few_compared : {left m : ℕ} {steps : List Met} {w : Walk} → Follows f g i left m steps w → compared w ≤ suc m
  unfolding compared
  few_compared (finds e k) = omega arith
  few_compared (passes {m = m} {a = a} e k apart on) = omega (arith, (onto m a _ _ e).below, few_compared on)
  few_compared (stops e k) = omega arith
  few_compared (ends n) = omega arith
  few_compared spent = omega arith

  pub none_spent : {left m : ℕ} {steps : List Met} {w : Walk} → Follows f g i left m steps w → m < left → is_array (f m) ≡ true → EndsAtFresh f w
  none_spent (finds e k) l array = tt
  none_spent (passes {m = m} {a = a} e k apart on) l array = none_spent on (omega (arith, (onto m a _ _ e).below, l)) (onto m a _ _ e).sort
  none_spent (stops e k) l array = tt
  none_spent (ends n) l array = is_fresh _ array n
  none_spent spent l array = absurd (omega (arith, l))

  -- where it may compare more than that, it does not matter how many more
  follows_enough : {left m : ℕ} {steps : List Met} {w : Walk} → Follows f g i left m steps w → m < left → (left' : ℕ) → m < left' → Follows f g i left' m steps w
  follows_enough (finds e k) l zero h = absurd (omega (arith, h))
  follows_enough (finds e k) l (suc left') h = finds e k
  follows_enough (passes {m = m} {a = a} e k apart on) l zero h = absurd (omega (arith, h))
  follows_enough (passes {m = m} {a = a} e k apart on) l (suc left') h =
      passes e k apart (follows_enough on (omega (arith, (onto m a _ _ e).below, l)) left' (omega (arith, (onto m a _ _ e).below, h)))
  follows_enough (stops e k) l zero h = absurd (omega (arith, h))
  follows_enough (stops e k) l (suc left') h = stops e k
  follows_enough (ends n) l zero h = absurd (omega (arith, h))
  follows_enough (ends n) l (suc left') h = ends n
  follows_enough spent l left' h = absurd (omega (arith, l))

  pub walk_enough : (left left' m : ℕ) → m < left → m < left' → walk f g i left m ≡ walk f g i left' m
  walk_enough left left' m l h = (follows_only f g i (follows_enough (walk_follows f g i left m) l left' h)).0
