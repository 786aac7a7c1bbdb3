-- The rules for words, at each way out of the code. Assumes nothing.
use Prim.Native.Nat.{ℕ, ◌≤◌, ◌<◌, min, max}
use native.Mathlib.Omega.{arith}
use mathlib.Core.Path.{◌≡◌, refl, sym, ap, ◌∙◌}
use mathlib.Core.Bool.{Bool, true, false, cond}
use lib.Dec.{eqb}
use borrow.Author.Tests.{eq-eqb, ne_eqb}
use Rattle.word.specs.Word.{plus, minus}
use Rattle.row.specs.declared.Row.{Row}
use Rattle.row.specs.Bytes.{row}
use Rattle.row.specs.Names.{CONST, SHIFT, SUM, DIFF, NEG}
use Rattle.term.specs.Term.{Term, sum, diff, row_of}
use Rattle.term.specs.Base.{
  Base,
  Nothing,
  One,
  Sum,
  Difference,
  Negative,
  shape_of,
  left_of,
  right_of,
  written,
  is_nothing,
  same_base,
  open_row,
  open_offset,
  base,
  offset,
  open_to,
  open_by,
}
use Rattle.term.specs.Rule.{shift_rule, sum_rule, neg_by, neg_rule, diff_rule}
use Rattle.walks.specs.declared.value.Value.{Value}
use Rattle.walks.specs.Value.{value, value_from, value_of, value_at, agree, opened_from, shifted_row}
use Rattle.walks.proofs.Relations.{agree_bases, value_offset}

-- ---- bases by numbers

written_row : (d : Base) (k : ℕ) → row_of (written d k) ≡ row (shape_of d) (left_of d) (right_of d) 0 k 0
unfolding row_of written shape_of left_of right_of
written_row Nothing k = refl
written_row (One x) k = refl
written_row (Sum x y) k = refl
written_row (Difference x y) k = refl
written_row (Negative x) k = refl

opened_from_lem : (r : ℕ) (d : Base) (k : ℕ) → opened_from r (value_from d k) ≡ value SHIFT (open_row r d) 0 (open_offset d k)
unfolding opened_from value_from shape_of left_of right_of open_row open_offset
opened_from_lem r Nothing k = refl
opened_from_lem r (One x) k = refl
opened_from_lem r (Sum x y) k = refl
opened_from_lem r (Difference x y) k = refl
opened_from_lem r (Negative x) k = refl

module _ (f : ℕ → Term) (x : ℕ) where
  opened_at : opened_from x (value_at f x) ≡ value SHIFT (open_to f x) 0 (open_by f x)
  unfolding value_at value_of open_to open_by base offset
  opened_at = opened_from_lem x (base f x) (offset f x)

  constant_base : (v : Value) → v ≡ value_at f x → v.kind ≡ CONST → is_nothing (base f x) ≡ true
  unfolding is_nothing value_at value_of value_from base
  constant_base v q e = eq-eqb (shape_of (base f x)) CONST (ap (λ (u : Value). u.kind) (sym q) ∙ e)

  other_base : (v : Value) → v ≡ value_at f x → (v.kind ≡ CONST → ⊥) → is_nothing (base f x) ≡ false
  unfolding is_nothing value_at value_of value_from base
  other_base v q h = ne_eqb (shape_of (base f x)) CONST (λ e. h (ap (λ (u : Value). u.kind) q ∙ e))

-- ---- SHIFT

module _ (M : ℕ) (v : Value) (k s : ℕ) (x : Row) where
  pub shifted_row_lem : s ≡ plus M v.k k → x ≡ row v.kind v.a v.b 0 s 0 → x ≡ shifted_row M v k
  unfolding shifted_row
  shifted_row_lem e q = rw (← e) q

module _ (M : ℕ) (f : ℕ → Term) (a k : ℕ) (v : Value) (x : Row) where
  pub shift_row : v ≡ value_at f a → x ≡ shifted_row M v k → x ≡ row_of (shift_rule M f a k)
  unfolding shifted_row shift_rule value_at value_of value_from base offset
  shift_row e q = rw (written_row (base f a) (plus M (offset f a) k)) (rw e at q)

-- ---- operands that are opened

module _ (M : ℕ) (x y : Value) (k p s : ℕ) (z : Row) where
  pub sum_ordered : p ≡ plus M x.k y.k → s ≡ plus M p k → x.a ≤ y.a → z ≡ row SUM x.a y.a 0 s 0
      → z ≡ row_of (sum (min x.a y.a) (max x.a y.a) (plus M (plus M x.k y.k) k))
  unfolding row_of
  sum_ordered e q l i =
      let low : min x.a y.a ≡ x.a = omega arith in
      let high : max x.a y.a ≡ y.a = omega arith in
      rw (low, high, ← e, ← q) i

  pub sum_turned : p ≡ plus M x.k y.k → s ≡ plus M p k → y.a < x.a → z ≡ row SUM y.a x.a 0 s 0
      → z ≡ row_of (sum (min x.a y.a) (max x.a y.a) (plus M (plus M x.k y.k) k))
  unfolding row_of
  sum_turned e q l i =
      let low : min x.a y.a ≡ y.a = omega arith in
      let high : max x.a y.a ≡ x.a = omega arith in
      rw (low, high, ← e, ← q) i

  pub difference_row : s ≡ plus M (minus M x.k y.k) k → z ≡ row DIFF x.a y.a 0 s 0
      → z ≡ row_of (diff x.a y.a (plus M (minus M x.k y.k) k))
  unfolding row_of
  difference_row e i = rw (← e) i

-- ---- SUM

module _ (M : ℕ) (f : ℕ → Term) (a b k : ℕ) (u v : Value) (z : Row) (left : u ≡ value_at f a) (right : v ≡ value_at f b) where
  offset_left : u.k ≡ offset f a
  offset_left = rw left (value_offset f a)

  offset_right : v.k ≡ offset f b
  offset_right = rw right (value_offset f b)

  agrees : (t : Bool) → t ≡ agree u v → t ≡ same_base (base f a) (base f b)
  agrees t e = e ∙ rw (left, right) (agree_bases f a b)

  pub sum_constant : (s : ℕ) → u.kind ≡ CONST → s ≡ plus M u.k k → z ≡ shifted_row M v s → z ≡ row_of (sum_rule M f a b k)
  unfolding sum_rule
  sum_constant s c e q =
      rw (constant_base f a u left c, ← offset_left, ← e) (shift_row M f b s v z right q)

  pub sum_by_constant : (s : ℕ) → (u.kind ≡ CONST → ⊥) → v.kind ≡ CONST → s ≡ plus M v.k k → z ≡ shifted_row M u s
      → z ≡ row_of (sum_rule M f a b k)
  unfolding sum_rule
  sum_by_constant s n c e q =
      rw (other_base f a u left n, constant_base f b v right c, ← offset_right, ← e) (shift_row M f a s u z left q)

  module _ (o p : Value) (open-left : o ≡ opened_from a u) (open-right : p ≡ opened_from b v) where
    to_left : o ≡ value SHIFT (open_to f a) 0 (open_by f a)
    to_left = open-left ∙ rw left (opened_at f a)

    to_right : p ≡ value SHIFT (open_to f b) 0 (open_by f b)
    to_right = open-right ∙ rw right (opened_at f b)

    pub sum_opened : (u.kind ≡ CONST → ⊥) → (v.kind ≡ CONST → ⊥)
        → z ≡ row_of (sum (min o.a p.a) (max o.a p.a) (plus M (plus M o.k p.k) k)) → z ≡ row_of (sum_rule M f a b k)
    unfolding sum_rule written
    sum_opened n m q = rw (other_base f a u left n, other_base f b v right m) (rw (to_left, to_right) at q)

    -- ---- DIFF

    pub diff_opened : (t : Bool) → t ≡ agree u v → t ≡ false → (v.kind ≡ CONST → ⊥) → (u.kind ≡ CONST → ⊥)
        → z ≡ row_of (diff o.a p.a (plus M (minus M o.k p.k) k)) → z ≡ row_of (diff_rule M f a b k)
    unfolding diff_rule written
    diff_opened t e i m n q =
        rw (sym (agrees t e) ∙ i, other_base f b v right m, other_base f a u left n) (rw (to_left, to_right) at q)

  module _ (t : Bool) (test : t ≡ agree u v) where
    pub diff_same : (s : ℕ) → t ≡ true → s ≡ plus M (minus M u.k v.k) k → z ≡ row CONST 0 0 0 s 0 → z ≡ row_of (diff_rule M f a b k)
    unfolding diff_rule row_of
    diff_same s i e q = rw (sym (agrees t test) ∙ i, ← offset_left, ← offset_right, ← e) q

    pub diff_by_constant : (s : ℕ) → t ≡ false → v.kind ≡ CONST → s ≡ minus M k v.k → z ≡ shifted_row M u s
        → z ≡ row_of (diff_rule M f a b k)
    unfolding diff_rule
    diff_by_constant s i c e q =
        rw (sym (agrees t test) ∙ i, constant_base f b v right c, ← offset_right, ← e) (shift_row M f a s u z left q)

    pub diff_from_constant : (s : ℕ) → t ≡ false → (v.kind ≡ CONST → ⊥) → u.kind ≡ CONST → s ≡ plus M k u.k
        → z ≡ row_of (neg_rule M f b s) → z ≡ row_of (diff_rule M f a b k)
    unfolding diff_rule
    diff_from_constant s i n c e q =
        rw (sym (agrees t test) ∙ i, other_base f b v right n, constant_base f a u left c, ← offset_left, ← e) q

-- ---- NEG

-- by the numbers of the operand's base, in the order of the code
neg_row : ℕ → (ℕ → Term) → ℕ → ℕ → ℕ → ℕ → ℕ → ℕ → Row
neg_row M f a k s kind x y =
    cond (eqb kind CONST) (row CONST 0 0 0 s 0)
    (cond (eqb kind SHIFT) (row NEG x 0 0 s 0)
    (cond (eqb kind NEG) (row_of (shift_rule M f x s))
    (cond (eqb kind DIFF) (row DIFF y x 0 s 0) (row NEG a 0 0 k 0))))

neg_by_lem : (M : ℕ) (f : ℕ → Term) (a k p : ℕ) (d : Base)
    → row_of (neg_by M f a k p d) ≡ neg_row M f a k (minus M k p) (shape_of d) (left_of d) (right_of d)
unfolding neg_row neg_by row_of written shape_of left_of right_of
neg_by_lem M f a k p Nothing = refl
neg_by_lem M f a k p (One x) = refl
neg_by_lem M f a k p (Sum x y) = refl
neg_by_lem M f a k p (Difference x y) = refl
neg_by_lem M f a k p (Negative x) = refl

neg_at : (M : ℕ) (f : ℕ → Term) (a k : ℕ)
    → row_of (neg_rule M f a k) ≡ neg_row M f a k (minus M k (value_at f a).k) (value_at f a).kind (value_at f a).a (value_at f a).b
unfolding neg_rule value_at value_of value_from base offset
neg_at M f a k = neg_by_lem M f a k (offset f a) (base f a)

module _ (M : ℕ) (f : ℕ → Term) (a k : ℕ) (v : Value) (s : ℕ) (z : Row) (operand : v ≡ value_at f a) (taken : s ≡ minus M k v.k) where
  neg_row_lem : row_of (neg_rule M f a k) ≡ neg_row M f a k s v.kind v.a v.b
  unfolding neg_rule
  neg_row_lem = neg_at M f a k ∙ rw (taken, operand)

  pub neg_constant : v.kind ≡ CONST → z ≡ row CONST 0 0 0 s 0 → z ≡ row_of (neg_rule M f a k)
  unfolding neg_row
  neg_constant e q = q ∙ sym (neg_row_lem ∙ rw e)

  pub neg_one : v.kind ≡ SHIFT → z ≡ row NEG v.a 0 0 s 0 → z ≡ row_of (neg_rule M f a k)
  unfolding neg_row
  neg_one e q = q ∙ sym (neg_row_lem ∙ rw e)

  pub neg_negative : v.kind ≡ NEG → z ≡ row_of (shift_rule M f v.a s) → z ≡ row_of (neg_rule M f a k)
  unfolding neg_row
  neg_negative e q = q ∙ sym (neg_row_lem ∙ rw e)

  pub neg_difference : v.kind ≡ DIFF → z ≡ row DIFF v.b v.a 0 s 0 → z ≡ row_of (neg_rule M f a k)
  unfolding neg_row
  neg_difference e q = q ∙ sym (neg_row_lem ∙ rw e)

  pub neg_sum : (v.kind ≡ CONST → ⊥) → (v.kind ≡ SHIFT → ⊥) → (v.kind ≡ NEG → ⊥) → (v.kind ≡ DIFF → ⊥)
      → z ≡ row NEG a 0 0 k 0 → z ≡ row_of (neg_rule M f a k)
  unfolding neg_row
  neg_sum c o n d q =
      q
      ∙ sym
      (neg_row_lem
      ∙ rw
      (ne_eqb v.kind CONST c, ne_eqb v.kind SHIFT o, ne_eqb v.kind NEG n, ne_eqb v.kind DIFF d))
