-- The rules for arrays, at each way out of the code. Assumes nothing.
use Prim.Native.Nat.{ℕ}
use mathlib.Core.Path.{◌≡◌, refl, sym, ap, ◌∙◌}
use mathlib.Core.List.{List}
use Rattle.range.specs.declared.Range.{Range}
use Rattle.range.specs.Store.{kept}
use Rattle.row.specs.declared.Row.{Row}
use Rattle.row.specs.Bytes.{row, Decoded}
use Rattle.row.specs.Names.{READ, WRITE}
use Rattle.term.specs.Term.{Term, const, var, shift, sum, diff, neg, read, fresh, write, row_of}
use Rattle.term.specs.Base.{base_of, offset_of, shape_of, left_of, plain_of, plain}
use Rattle.term.specs.Bytes.{look}
use Rattle.term.specs.declared.Relation.{Relation}
use Rattle.term.specs.declared.Relation.TheVariants.{Same, Apart, Unknown}
use Rattle.term.specs.Relation.{related}
use Rattle.term.specs.Walk.{Walk, found, passed, undecided, ended, walk}
use Rattle.term.specs.Rule.{shift_rule, read_by, read_rule, skip_by, skip_at, write_rule, rule}
use Rattle.term.specs.Compared.{compared_by}
use Rattle.walks.specs.declared.value.Value.{Value}
use Rattle.walks.specs.declared.relation.Index.{Index}
use Rattle.walks.specs.declared.walking.Landing.{Landing}
use Rattle.walks.specs.declared.walking.Landing.TheVariants.{Found, Stopped}
use Rattle.walks.specs.declared.walking.Walked.{Walked}
use Rattle.walks.specs.Value.{value_from, value_of, value_at, plain_from}
use Rattle.walks.specs.Walked.{landing, walked_by}
use Rattle.walks.specs.Ready.{Sought}
use Rattle.walks.proofs.Stores.{NoStore, no_store, store_at}
use Rattle.walks.proofs.Walks.{lands_below}
use Rattle.rules.specs.Made.{made, Makes}
use Rattle.rules.specs.Ready.{Unary, Reading}

-- ---- plain names

plain_of_lem : (x : ℕ) (t : Term) → plain_from x (value_of x t) ≡ plain_of x t
unfolding plain_from value_of value_from base_of offset_of shape_of left_of plain_of
plain_of_lem x (const k) = refl
plain_of_lem x (var name k h) = refl
plain_of_lem x (shift a k) = refl
plain_of_lem x (sum a b k) = refl
plain_of_lem x (diff a b k) = refl
plain_of_lem x (neg a k) = refl
plain_of_lem x (read a b) = refl
plain_of_lem x fresh = refl
plain_of_lem x (write a b c) = refl

plain_at : (f : ℕ → Term) (x p : ℕ) (v : Value) → v ≡ value_at f x → p ≡ plain_from x v → p ≡ plain f x
unfolding plain value_at
plain_at f x p v e q = q ∙ rw e (plain_of_lem x (f x))

-- ---- READ

landed : ℕ → (ℕ → Term) → ℕ → Landing → Term
landed M f i (Found c) = shift_rule M f c 0
landed M f i (Stopped n) = read n (plain f i)

read_lands : (M : ℕ) (f : ℕ → Term) (i : ℕ) (w : Walk) → read_by M f i w ≡ landed M f i (landing w)
unfolding read_by landing landed
read_lands M f i (found m c) = refl
read_lands M f i (passed m onward) = read_lands M f i onward
read_lands M f i (undecided m) = refl
read_lands M f i (ended m) = refl

module _ (M limit : ℕ) (f : ℕ → Term) (g : ℕ → Range) (m i : ℕ) (j : Index) (sought : j.row ≡ i) (v : Walked) (z : Row) (walked : v ≡ walked_by (walk f g j.row limit m)) where
  told : v ≡ walked_by (walk f g i limit m)
  told = rw sought at walked

  read_made : z ≡ row_of (read_rule M limit f g m i) → Makes M limit f g (read m i) (made z v.compared)
  unfolding rule compared_by walked_by
  read_made q = record { row = q; compared = ap (λ (u : Walked). u.compared) told }

  read_ends : read_rule M limit f g m i ≡ landed M f i v.landing
  unfolding read_rule walked_by
  read_ends = read_lands M f i (walk f g i limit m) ∙ ap (λ (u : Walked). landed M f i u.landing) (sym told)

  pub read_found : (c : ℕ) → v.landing ≡ Found c → z ≡ row_of (shift_rule M f c 0) → Makes M limit f g (read m i) (made z v.compared)
  unfolding landed
  read_found c e q = read_made (rw (read_ends, e) q)

  pub read_stopped : (n p : ℕ) → v.landing ≡ Stopped n → Sought f g j → p ≡ plain_from i j.value → z ≡ row READ n p 0 0 0
      → Makes M limit f g (read m i) (made z v.compared)
  unfolding landed row_of
  read_stopped n p e s q k = read_made (rw (read_ends, e, ← plain_at f i p j.value (rw sought at s.value) q) k)

module _ (R : List ℕ) (S : List Range) (limit r m i : ℕ) (j : Index) (v : Walked) (given : Reading R r m i) where
  pub found_below : (c : ℕ) → v ≡ walked_by (walk (look R) (kept S) j.row limit m) → v.landing ≡ Found c → Unary R r c
  unfolding walked_by
  found_below c e q =
      record {
        rows = given.rows;
        below = rw (sym (ap (λ (u : Walked). u.landing) e) ∙ q) at (lands_below R (kept S) r j.row limit m given.rows given.array);
      }

-- ---- WRITE

skip_none : (f : ℕ → Term) (g : ℕ → Range) (i m : ℕ) (t : Term) → NoStore t → m ≡ skip_at f g i m t
unfolding skip_at
skip_none f g i m (const k) h = refl
skip_none f g i m (var name k u) h = refl
skip_none f g i m (shift a k) h = refl
skip_none f g i m (sum a b k) h = refl
skip_none f g i m (diff a b k) h = refl
skip_none f g i m (neg a k) h = refl
skip_none f g i m (read a b) h = refl
skip_none f g i m fresh h = refl
skip_none f g i m (write a b c) h = absurd h

module _ (R : List ℕ) (m : ℕ) (x : Row) (row : Decoded R m x) where
  pub skip_ends : (g : ℕ → Range) (i : ℕ) → (x.kind ≡ WRITE → ⊥) → m ≡ skip_at (look R) g i m (look R m)
  skip_ends g i h = skip_none (look R) g i m (look R m) (no_store R m x row h)

  module _ (g : ℕ → Range) (i : ℕ) (k : Relation) (kind : x.kind ≡ WRITE) (known : k ≡ related (look R) g x.b i) where
    skip_by_lem : (s : Relation) → k ≡ s → skip_at (look R) g i m (look R m) ≡ skip_by m x.a s
    unfolding skip_at
    skip_by_lem s e = rw (store_at R m x row kind, ← known, e)

    pub skip_same : k ≡ Same → x.a ≡ skip_at (look R) g i m (look R m)
    unfolding skip_by
    skip_same e = sym (skip_by_lem Same e)

    pub skip_apart : k ≡ Apart → m ≡ skip_at (look R) g i m (look R m)
    unfolding skip_by
    skip_apart e = sym (skip_by_lem Apart e)

    pub skip_unknown : k ≡ Unknown → m ≡ skip_at (look R) g i m (look R m)
    unfolding skip_by
    skip_unknown e = sym (skip_by_lem Unknown e)

module _ (f : ℕ → Term) (g : ℕ → Range) (m i e : ℕ) (j : Index) (v : Value) (a p q : ℕ) (z : Row) where
  pub write_row_lem : j.row ≡ i → Sought f g j → v ≡ value_at f e → a ≡ skip_at f g j.row m (f m) → p ≡ plain_from i j.value → q ≡ plain_from e v
      → z ≡ row WRITE a p q 0 0 → z ≡ row_of (write_rule f g m i e)
  unfolding write_rule row_of
  write_row_lem row s c d h k y =
      let skipped : a ≡ skip_at f g i m (f m) = rw row at d in
      let sought : j.value ≡ value_at f i = rw row at s.value in
      rw (← skipped, ← plain_at f i p j.value sought h, ← plain_at f e q v c k) y
