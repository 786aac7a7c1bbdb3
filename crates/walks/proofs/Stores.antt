-- An array row is a store or it is none: what the code does at it. Assumes nothing.
use Prim.Native.Nat.{ℕ, ◌≤◌, ◌<◌}
use native.Mathlib.Omega.{arith}
use mathlib.Core.Path.{◌≡◌, refl, sym, ap, ap₂, subst, ◌∙◌}
use mathlib.Core.Bool.{true, false, true≢false}
use mathlib.Core.List.{List}
use lib.Dec.{eqb}
use borrow.Author.Tests.{eqb-true, eqb-false}
use Rattle.basis.proofs.Pick.{test_case}
use Rattle.range.specs.declared.Range.{Range}
use Rattle.range.specs.Range.{span, point}
use Rattle.range.specs.Store.{kept}
use Rattle.row.specs.declared.Row.{Row}
use Rattle.row.specs.Names.{WRITE}
use Rattle.row.specs.Bytes.{Decoded}
use Rattle.table.specs.Refusals.{MOST}
use Rattle.term.specs.Term.{Term, const, var, shift, sum, diff, neg, read, fresh, write, term_of, row_of, is_array}
use Rattle.term.specs.Bytes.{look}
use Rattle.term.specs.declared.Relation.{Relation}
use Rattle.term.specs.declared.Relation.TheVariants.{Same, Apart, Unknown}
use Rattle.term.specs.Relation.{related}
use Rattle.walks.specs.declared.relation.Index.{Index}
use Rattle.walks.specs.declared.walking.Step.TheVariants.{Hit, Next, Stay, End}
use Rattle.walks.specs.Walked.{step_by, step_at}
use Rattle.walks.specs.Ready.{NamesBelow, Walking, Following, Comparing}
use Rattle.walks.proofs.Terms.{term_write, term_case}
use Rattle.walks.proofs.Reach.{row_reached}

-- ---- a row that is no store

abbrev pub NoStore : Term → Type 0
NoStore (const k) = Unit {0}
NoStore (var name k h) = Unit {0}
NoStore (shift a k) = Unit {0}
NoStore (sum a b k) = Unit {0}
NoStore (diff a b k) = Unit {0}
NoStore (neg a k) = Unit {0}
NoStore (read a b) = Unit {0}
NoStore fresh = Unit {0}
NoStore (write a b c) = ⊥

-- ---- the row m of the bytes R, which is x

module _ (R : List ℕ) (m : ℕ) (x : Row) (row : Decoded R m x) where
  term_at : look R m ≡ term_of x
  unfolding look
  term_at = ap term_of (sym row.is)

  pub no_store : (x.kind ≡ WRITE → ⊥) → NoStore (look R m)
  no_store h = rw term_at (term_case NoStore x tt tt tt tt tt tt tt tt tt (λ (e : x.kind ≡ WRITE). h e))

  pub store_at : x.kind ≡ WRITE → look R m ≡ write x.a x.b x.c
  store_at e = term_at ∙ term_write x e

  pub store_compared : (S : List Range) (r : ℕ) (j : Index) → Walking R S r j m → x.kind ≡ WRITE → Comparing R S x.b j
  store_compared S r j given e =
      let named : NamesBelow m (write x.a x.b x.c) = rw (store_at e) at (given.rows.names m given.below) in
      record {
        row = row_reached R r x.b given.rows (omega (arith, named.1, given.below));
        index = given.index;
      }

-- ---- the array row m as the store has it

module _ (R : List ℕ) (S : List Range) (r : ℕ) (j : Index) (m : ℕ) (given : Walking R S r j m) (follow : Following R S r m) (x : Range) (loaded : x ≡ kept S m) where
  word : (t : Term) → look R m ≡ t → is_array t ≡ false → ⊥
  word t e w = true≢false (sym follow.array ∙ ap is_array e ∙ w)

  has_end : look R m ≡ fresh → x.lo ≡ MOST
  unfolding point span
  has_end e = ap (λ (a : Range). a.lo) (loaded ∙ follow.links.ends m given.below e)

  module _ (a b c : ℕ) (e : look R m ≡ write a b c) where
    named : NamesBelow m (write a b c)
    named = rw e at (given.rows.names m given.below)

    has_array : x.lo ≡ a
    unfolding span
    has_array = ap (λ (u : Range). u.lo) (loaded ∙ follow.links.stores m a b c given.below e)

    has_index : x.hi ≡ b
    unfolding span
    has_index = ap (λ (u : Range). u.hi) (loaded ∙ follow.links.stores m a b c given.below e)

  -- no row where row m is no store
  ends_at : (g : ℕ → Range) (t : Term) → look R m ≡ t → MOST ≤ x.lo → End ≡ step_at (look R) g j.row t
  unfolding step_at
  ends_at g (const k) e h = refl
  ends_at g (var name k u) e h = refl
  ends_at g (shift a k) e h = refl
  ends_at g (sum a b k) e h = refl
  ends_at g (diff a b k) e h = refl
  ends_at g (neg a k) e h = refl
  ends_at g (read a b) e h = refl
  ends_at g fresh e h = refl
  ends_at g (write a b c) e h =
      absurd (omega (arith, has_array a b c e, (named a b c e).0, given.below, given.rows.few))

  pub step_ends : (g : ℕ → Range) → MOST ≤ x.lo → End ≡ step_at (look R) g j.row (look R m)
  step_ends g h = ends_at g (look R m) refl h

  -- else row m is the store that it has
  store_of : (t : Term) → look R m ≡ t → x.lo < MOST → (c : ℕ) × (look R m ≡ write x.lo x.hi c)
  unfolding is_array
  store_of (const k) e l = absurd (word (const k) e refl)
  store_of (var name k u) e l = absurd (word (var name k u) e refl)
  store_of (shift a k) e l = absurd (word (shift a k) e refl)
  store_of (sum a b k) e l = absurd (word (sum a b k) e refl)
  store_of (diff a b k) e l = absurd (word (diff a b k) e refl)
  store_of (neg a k) e l = absurd (word (neg a k) e refl)
  store_of (read a b) e l = absurd (word (read a b) e refl)
  store_of fresh e l = absurd (omega (arith, has_end e))
  store_of (write a b c) e l = (c, e ∙ ap₂ (λ (p q : ℕ). write p q c) (sym (has_array a b c e)) (sym (has_index a b c e)))

  module _ (l : x.lo < MOST) where
    element : ℕ
    element = (store_of (look R m) refl l).0

    store_is : look R m ≡ write x.lo x.hi element
    unfolding element
    store_is = (store_of (look R m) refl l).1

    pub step_compared : Comparing R S x.hi j
    step_compared =
        record {
          row = row_reached R r x.hi given.rows (omega (arith, (named x.lo x.hi element store_is).1, given.below));
          index = given.index;
        }

    -- its element, where row m is read
    element_is : (y : Row) → Decoded R m y → y.c ≡ element
    unfolding row_of
    element_is y d =
        test_case (eqb y.kind WRITE)
        (λ (t : eqb y.kind WRITE ≡ true).
        ap (λ (u : Term). (row_of u).c) (sym (store_at R m y d (eqb-true y.kind WRITE t)) ∙ store_is))
        (λ (t : eqb y.kind WRITE ≡ false).
        absurd (subst NoStore store_is (no_store R m y d (eqb-false y.kind WRITE t))))

    module _ (g : ℕ → Range) (k : Relation) (known : k ≡ related (look R) g x.hi j.row) where
      step_by_lem : (s : Relation) → k ≡ s → step_at (look R) g j.row (look R m) ≡ step_by x.lo element s
      unfolding step_at
      step_by_lem s e = ap (step_at (look R) g j.row) store_is ∙ ap (step_by x.lo element) (sym known ∙ e)

      pub step_same : (y : Row) → Decoded R m y → k ≡ Same → Hit y.c ≡ step_at (look R) g j.row (look R m)
      unfolding step_by
      step_same y d e = ap Hit (element_is y d) ∙ sym (step_by_lem Same e)

      pub step_apart : k ≡ Apart → Next x.lo ≡ step_at (look R) g j.row (look R m)
      unfolding step_by
      step_apart e = sym (step_by_lem Apart e)

      pub step_unknown : k ≡ Unknown → Stay ≡ step_at (look R) g j.row (look R m)
      unfolding step_by
      step_unknown e = sym (step_by_lem Unknown e)
