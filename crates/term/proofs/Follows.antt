-- The list of a walk is exactly the walk. `Follows` is document 01's walk as its list tells it, store by store; a walk follows so with its
-- list, and nothing else does.
use Prim.Native.Nat.{ℕ, zero, suc}
use mathlib.Core.Path.{◌≡◌, refl, sym, ap, ap₂, ◌∙◌, subst}
use mathlib.Core.List.{List, [], ◌∷◌}
use lib.Dec.{eqb}
use lib.ListN.{length}
use borrow.Author.Tests.{eqb-true, eqb-false}
use Rattle.basis.proofs.Pick.{test_case}
use Rattle.range.specs.declared.Range.{Range}
use Rattle.row.specs.Names.{WRITE}
use Rattle.row.specs.Bytes.{row}
use Rattle.term.specs.declared.Relation.TheVariants.{Apart}
use Rattle.term.specs.declared.Reason.{Reason}
use Rattle.term.specs.declared.Reason.TheVariants.{SamePlace, Offsets, Separate, Undecided}
use Rattle.term.specs.declared.Met.{Met}
use Rattle.term.specs.Term.{Term, const, var, shift, sum, diff, neg, read, fresh, write, term_of, row_of}
use Rattle.term.specs.Walk.{Walk, found, passed, undecided, ended, step, walk_at, walk, compared}
use Rattle.term.specs.Reason.{reason, known_by, index_of, meets, met}
use Rattle.term.proofs.Rows.{term_row}
use Rattle.term.proofs.Reasons.{related_reason}

-- the store m, whose index is row b, and the reason
abbrev pub meeting : ℕ → ℕ → Reason → Met
meeting m b why = record { store = m; index = b; why = why }

-- for the index row i, over the result rows f and their ranges g: from array row m on, with `left` comparisons left, the stores met and the walk
pub data Follows (f : ℕ → Term) (g : ℕ → Range) (i : ℕ) : ℕ → ℕ → List Met → Walk → Type 0 where
  -- at a WRITE whose index is the same: found
  finds : {left m a b c : ℕ} → f m ≡ write a b c → reason f g b i ≡ SamePlace → Follows f g i (suc left) m (meeting m b SamePlace ∷ []) (found m c)
  -- at one whose index is apart: go to the array that it stands on
  passes : {left m a b c : ℕ} {why : Reason} {steps : List Met} {onward : Walk} →
      f m ≡ write a b c → reason f g b i ≡ why → known_by why ≡ Apart →
      Follows f g i left a steps onward → Follows f g i (suc left) m (meeting m b why ∷ steps) (passed m onward)
  -- at one of whose index neither is known: stop
  stops : {left m a b c : ℕ} → f m ≡ write a b c → reason f g b i ≡ Undecided → Follows f g i (suc left) m (meeting m b Undecided ∷ []) (undecided m)
  -- at a row that is no WRITE: stop
  ends : {left m : ℕ} → ((row_of (f m)).kind ≡ WRITE → ⊥) → Follows f g i (suc left) m [] (ended m)
  -- with no comparison left: stop
  spent : {m : ℕ} → Follows f g i zero m [] (ended m)

-- of each store listed
abbrev pub Each : (Met → Type 0) → List Met → Type 0
Each P [] = Unit {0}
Each P (s ∷ ss) = P s × Each P ss

store_is : (t : Term) → (row_of t).kind ≡ WRITE → t ≡ write (row_of t).a (row_of t).b (row_of t).c
unfolding term_of
store_is t e = sym (term_row t) ∙ ap (λ (kind : ℕ). term_of (row kind (row_of t).a (row_of t).b (row_of t).c (row_of t).k (row_of t).h)) e

module _ (f : ℕ → Term) (g : ℕ → Range) (i : ℕ) where
  no_store : (m : ℕ) (onward : ℕ → Walk) (t : Term) → ((row_of t).kind ≡ WRITE → ⊥) → walk_at f g i m onward t ≡ ended m
  unfolding walk_at row_of
  no_store m onward (const k) n = refl
  no_store m onward (var name k h) n = refl
  no_store m onward (shift a k) n = refl
  no_store m onward (sum a b k) n = refl
  no_store m onward (diff a b k) n = refl
  no_store m onward (neg a k) n = refl
  no_store m onward (read a b) n = refl
  no_store m onward fresh n = refl
  no_store m onward (write a b c) n = absurd (n refl)

  walk_ends : (left m : ℕ) → ((row_of (f m)).kind ≡ WRITE → ⊥) → walk f g i (suc left) m ≡ ended m
  unfolding walk
  walk_ends left m n = no_store m (walk f g i left) (f m) n

  walk_steps : (left m a b c : ℕ) (why : Reason) → f m ≡ write a b c → reason f g b i ≡ why →
      walk f g i (suc left) m ≡ step m a c (walk f g i left) (known_by why)
  unfolding walk walk_at
  walk_steps left m a b c why e k =
      ap (walk_at f g i m (walk f g i left)) e ∙ ap (step m a c (walk f g i left)) (related_reason f g b i ∙ ap known_by k)

  meets_is : (m a b c : ℕ) (why : Reason) → f m ≡ write a b c → reason f g b i ≡ why → meets f g i m ≡ meeting m b why
  unfolding meets index_of
  meets_is m a b c why e k = ap (λ (t : Term). meeting m (index_of t) (reason f g (index_of t) i)) e ∙ ap (meeting m b) k

  -- a walk with its list, from array row m on
  abbrev Tells : ℕ → ℕ → Walk → Type 0
  Tells left m w = Follows f g i left m (met f g i w) w

  step_follows : (left m a b c : ℕ) (why : Reason) → f m ≡ write a b c → reason f g b i ≡ why →
      Tells left a (walk f g i left a) → Tells (suc left) m (step m a c (walk f g i left) (known_by why))
  unfolding met step known_by
  step_follows left m a b c SamePlace e k on = rw (meets_is m a b c SamePlace e k) (finds e k)
  step_follows left m a b c (Offsets p q) e k on = rw (meets_is m a b c (Offsets p q) e k) (passes e k refl on)
  step_follows left m a b c (Separate ranges) e k on = rw (meets_is m a b c (Separate ranges) e k) (passes e k refl on)
  step_follows left m a b c Undecided e k on = rw (meets_is m a b c Undecided e k) (stops e k)

  pub walk_follows : (left m : ℕ) → Follows f g i left m (met f g i (walk f g i left m)) (walk f g i left m)
  unfolding walk met
  walk_follows zero m = spent
  walk_follows (suc left) m =
      test_case (eqb (row_of (f m)).kind WRITE)
      (λ t.
      let e : f m ≡ write (row_of (f m)).a (row_of (f m)).b (row_of (f m)).c = store_is (f m) (eqb-true _ _ t) in
      subst (Tells (suc left) m) (sym (walk_steps left m _ _ _ _ e refl)) (step_follows left m _ _ _ _ e refl (walk_follows left _)))
      (λ t. subst (Tells (suc left) m) (sym (walk_ends left m (eqb-false _ _ t))) (ends (eqb-false _ _ t)))

  -- and nothing else does
  pub follows_only : {left m : ℕ} {steps : List Met} {w : Walk} → Follows f g i left m steps w → (w ≡ walk f g i left m) × (steps ≡ met f g i w)
  unfolding walk step known_by met
  follows_only (finds {left = l} e k) = (sym (walk_steps l _ _ _ _ _ e k), ap (λ s. s ∷ []) (sym (meets_is _ _ _ _ _ e k)))
  follows_only (passes {left = l} {m = n} {a = a} {c = c} e k apart on) = (
    ap (passed n) (follows_only on).0 ∙ ap (step n a c (walk f g i l)) (sym apart) ∙ sym (walk_steps l _ _ _ _ _ e k),
    ap₂ ◌∷◌ (sym (meets_is _ _ _ _ _ e k)) (follows_only on).1,
  )
  follows_only (stops {left = l} e k) = (sym (walk_steps l _ _ _ _ _ e k), ap (λ s. s ∷ []) (sym (meets_is _ _ _ _ _ e k)))
  follows_only (ends {left = l} n) = (sym (walk_ends l _ n), refl)
  follows_only spent = (refl, refl)

  -- what holds of every store as a walk meets it holds of each one listed
  pub met_each : (P : Met → Type 0) → ((m : ℕ) → P (meets f g i m)) → (w : Walk) → Each P (met f g i w)
  unfolding met
  met_each P p (found m c) = (p m, tt)
  met_each P p (passed m onward) = (p m, met_each P p onward)
  met_each P p (undecided m) = (p m, tt)
  met_each P p (ended m) = tt

  -- as many are listed as were compared
  pub met_length : (w : Walk) → length (met f g i w) ≡ compared w
  unfolding met compared
  met_length (found m c) = refl
  met_length (passed m onward) = ap suc (met_length onward)
  met_length (undecided m) = refl
  met_length (ended m) = refl
