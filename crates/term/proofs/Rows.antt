-- Terms and rows: a term is that of its row, and a row whose unused fields are zero is that of its term.
use Prim.Native.Nat.{ℕ, zero, suc, ◌≤◌, ◌<◌}
use native.Mathlib.Nat.{not-suc-le-zero}
use native.Mathlib.Omega.{arith}
use mathlib.Core.Path.{◌≡◌, refl, sym, ap, ◌∙◌}
use mathlib.Core.Bool.{false, cond, not}
use mathlib.Core.List.{List}
use lib.Dec.{eqb, lit<}
use borrow.Author.Tests.{eqb-true, eq-eqb, ne_eqb, not-false}
use Rattle.basis.proofs.Pick.{test_case, pick_true, pick_false, or_left, or_right}
use Rattle.row.specs.declared.Row.{Row}
use Rattle.row.specs.Names.{CONST, VAR, SHIFT, SUM, DIFF, NEG, READ, FRESH, WRITE}
use Rattle.row.specs.Bytes.{row}
use Rattle.table.specs.declared.Sort.TheVariants.{Array}
use Rattle.table.specs.Uses.{is_sort, sort_of, is_used, uses_of}
use Rattle.names.specs.First.{name_of}
use Rattle.table.specs.Refusals.{use_at, reference, other_bounds}
use Rattle.table.specs.Accepted.{GoodRow}
use Rattle.term.specs.Term.{Term, const, var, shift, sum, diff, neg, read, fresh, write, term_of, row_of, stated_by, is_read, is_array}

pub term_row : (t : Term) → term_of (row_of t) ≡ t
unfolding term_of row_of
term_row (const k) = refl
term_row (var name k h) = refl
term_row (shift a k) = refl
term_row (sum a b k) = refl
term_row (diff a b k) = refl
term_row (neg a k) = refl
term_row (read a b) = refl
term_row fresh = refl
term_row (write a b c) = refl

-- a number past the kinds
abbrev pub past_kinds : ℕ → ℕ
past_kinds more = suc (suc (suc (suc (suc (suc (suc (suc (suc (suc more)))))))))

-- what holds of 0, of each kind and past the kinds holds of every number
pub number_case : (P : ℕ → Type 0) → P 0 →
    P CONST → P VAR → P SHIFT → P SUM → P DIFF → P NEG → P READ → P FRESH → P WRITE →
    ((more : ℕ) → P (past_kinds more)) → (kind : ℕ) → P kind
number_case P p0 p1 p2 p3 p4 p5 p6 p7 p8 p9 past zero = p0
number_case P p0 p1 p2 p3 p4 p5 p6 p7 p8 p9 past (suc zero) = p1
number_case P p0 p1 p2 p3 p4 p5 p6 p7 p8 p9 past (suc (suc zero)) = p2
number_case P p0 p1 p2 p3 p4 p5 p6 p7 p8 p9 past (suc (suc (suc zero))) = p3
number_case P p0 p1 p2 p3 p4 p5 p6 p7 p8 p9 past (suc (suc (suc (suc zero)))) = p4
number_case P p0 p1 p2 p3 p4 p5 p6 p7 p8 p9 past (suc (suc (suc (suc (suc zero))))) = p5
number_case P p0 p1 p2 p3 p4 p5 p6 p7 p8 p9 past (suc (suc (suc (suc (suc (suc zero)))))) = p6
number_case P p0 p1 p2 p3 p4 p5 p6 p7 p8 p9 past (suc (suc (suc (suc (suc (suc (suc zero))))))) = p7
number_case P p0 p1 p2 p3 p4 p5 p6 p7 p8 p9 past (suc (suc (suc (suc (suc (suc (suc (suc zero)))))))) = p8
number_case P p0 p1 p2 p3 p4 p5 p6 p7 p8 p9 past (suc (suc (suc (suc (suc (suc (suc (suc (suc zero))))))))) = p9
number_case P p0 p1 p2 p3 p4 p5 p6 p7 p8 p9 past (suc (suc (suc (suc (suc (suc (suc (suc (suc (suc more)))))))))) = past more

-- and what holds of each kind holds of a number that is one
pub kind_case : (P : ℕ → Type 0) →
    P CONST → P VAR → P SHIFT → P SUM → P DIFF → P NEG → P READ → P FRESH → P WRITE →
    (kind : ℕ) → 1 ≤ kind → kind ≤ 9 → P kind
kind_case P p1 p2 p3 p4 p5 p6 p7 p8 p9 =
    number_case (λ kind. 1 ≤ kind → kind ≤ 9 → P kind) (λ low high. absurd (not-suc-le-zero low))
    (λ low high. p1) (λ low high. p2) (λ low high. p3) (λ low high. p4) (λ low high. p5) (λ low high. p6) (λ low high. p7) (λ low high. p8) (λ low high. p9)
    (λ more low high. absurd (omega arith))

-- a row of some kind whose unused fields are zero
pub record Tidy (x : Row) : Type 0 where
  pub kind_low : 1 ≤ x.kind
  pub kind_high : x.kind ≤ 9
  pub unused_zero : (f : ℕ) → f < 3 → is_used (use_at (uses_of x.kind) f) ≡ false → reference x f ≡ 0
  pub unused_k : (uses_of x.kind).k ≡ false → x.k ≡ 0
  pub unused_h : (uses_of x.kind).h ≡ false → x.h ≡ 0

pub good_tidy : (t : List ℕ) (r : ℕ) (x : Row) → GoodRow t r x (uses_of x.kind) → Tidy x
good_tidy t r x good = record {
  kind_low = good.kind_low;
  kind_high = good.kind_high;
  unused_zero = good.unused_zero;
  unused_k = good.unused_k;
  unused_h = good.unused_h;
}

pub row_term : (x : Row) → Tidy x → row_of (term_of x) ≡ x
unfolding term_of row_of is_used use_at uses_of reference
row_term x tidy =
    kind_case Back
    (λ a b c k h good i. row CONST
    (sym (good.unused_zero 0 (lit< tt) refl) i) (sym (good.unused_zero 1 (lit< tt) refl) i) (sym (good.unused_zero 2 (lit< tt) refl) i) k (sym (good.unused_h refl) i))
    (λ a b c k h good i. row VAR a (sym (good.unused_zero 1 (lit< tt) refl) i) (sym (good.unused_zero 2 (lit< tt) refl) i) k h)
    (λ a b c k h good i. row SHIFT a (sym (good.unused_zero 1 (lit< tt) refl) i) (sym (good.unused_zero 2 (lit< tt) refl) i) k (sym (good.unused_h refl) i))
    (λ a b c k h good i. row SUM a b (sym (good.unused_zero 2 (lit< tt) refl) i) k (sym (good.unused_h refl) i))
    (λ a b c k h good i. row DIFF a b (sym (good.unused_zero 2 (lit< tt) refl) i) k (sym (good.unused_h refl) i))
    (λ a b c k h good i. row NEG a (sym (good.unused_zero 1 (lit< tt) refl) i) (sym (good.unused_zero 2 (lit< tt) refl) i) k (sym (good.unused_h refl) i))
    (λ a b c k h good i. row READ a b (sym (good.unused_zero 2 (lit< tt) refl) i) (sym (good.unused_k refl) i) (sym (good.unused_h refl) i))
    (λ a b c k h good i. row FRESH
    (sym (good.unused_zero 0 (lit< tt) refl) i) (sym (good.unused_zero 1 (lit< tt) refl) i) (sym (good.unused_zero 2 (lit< tt) refl) i) (sym (good.unused_k refl) i) (sym (good.unused_h refl) i))
    (λ a b c k h good i. row WRITE a b c (sym (good.unused_k refl) i) (sym (good.unused_h refl) i))
    x.kind tidy.kind_low tidy.kind_high x.a x.b x.c x.k x.h tidy
  where
    Back : ℕ → Type 0
    Back kind = (a b c k h : ℕ) → Tidy (row kind a b c k h) → row_of (term_of (row kind a b c k h)) ≡ row kind a b c k h

-- what its kind alone tells of a row's term
module _ {B : Type 0} (f : Term → B) (g : ℕ → B) where
  abbrev Told : ℕ → Type 0
  Told kind = (a b c k h : ℕ) → f (term_of (row kind a b c k h)) ≡ g kind

  pub kind_tells : Told 0 → Told CONST → Told VAR → Told SHIFT → Told SUM → Told DIFF → Told NEG → Told READ → Told FRESH → Told WRITE →
      ((more : ℕ) → f (const 0) ≡ g (past_kinds more)) → (x : Row) → f (term_of x) ≡ g x.kind
  unfolding term_of
  kind_tells t0 t1 t2 t3 t4 t5 t6 t7 t8 t9 past x =
      number_case Told t0 t1 t2 t3 t4 t5 t6 t7 t8 t9 (λ more a b c k h. past more) x.kind x.a x.b x.c x.k x.h

-- its sort
pub sort_term : (x : Row) → is_array (term_of x) ≡ is_sort Array (sort_of x.kind)
unfolding term_of sort_of is_sort is_array
sort_term =
    kind_tells is_array (λ kind. is_sort Array (sort_of kind))
    (λ a b c k h. refl) (λ a b c k h. refl) (λ a b c k h. refl) (λ a b c k h. refl) (λ a b c k h. refl)
    (λ a b c k h. refl) (λ a b c k h. refl) (λ a b c k h. refl) (λ a b c k h. refl) (λ a b c k h. refl)
    (λ more. rw (ne_eqb (past_kinds more) FRESH (omega arith), ne_eqb (past_kinds more) WRITE (omega arith)))

-- whether it is a READ
pub read_term : (x : Row) → is_read (term_of x) ≡ eqb x.kind READ
unfolding term_of is_read
read_term =
    kind_tells is_read (λ kind. eqb kind READ)
    (λ a b c k h. refl) (λ a b c k h. refl) (λ a b c k h. refl) (λ a b c k h. refl) (λ a b c k h. refl)
    (λ a b c k h. refl) (λ a b c k h. refl) (λ a b c k h. refl) (λ a b c k h. refl) (λ a b c k h. refl)
    (λ more. sym (ne_eqb (past_kinds more) READ (omega arith)))

-- a term states the name of its row, and a row that of its term
pub stated_term : (x : Row) → stated_by (term_of x) ≡ name_of x
unfolding term_of stated_by name_of
stated_term x =
    number_case (λ kind. (a b c k h : ℕ) → stated_by (term_of (row kind a b c k h)) ≡ name_of (row kind a b c k h))
    (λ a b c k h. refl) (λ a b c k h. refl) (λ a b c k h. refl) (λ a b c k h. refl) (λ a b c k h. refl)
    (λ a b c k h. refl) (λ a b c k h. refl) (λ a b c k h. refl) (λ a b c k h. refl) (λ a b c k h. refl)
    (λ more a b c k h. rw (ne_eqb (past_kinds more) VAR (omega arith)))
    x.kind x.a x.b x.c x.k x.h

pub name_row : (u : Term) → name_of (row_of u) ≡ stated_by u
name_row u = sym (stated_term (row_of u)) ∙ ap stated_by (term_row u)

-- rows that state one name and the same bounds are one term
pub one_variable : (x y : Row) → (name_of x ≡ 0 → ⊥) → name_of x ≡ name_of y → other_bounds x y ≡ false → term_of x ≡ term_of y
unfolding name_of other_bounds term_of
one_variable x y named same agrees =
    let var_x : x.kind ≡ VAR = is_var x named in
    let var_y : y.kind ≡ VAR = is_var y (λ e. named (same ∙ e)) in
    let a : x.a ≡ y.a = sym (pick_true _ _ _ (eq-eqb x.kind VAR var_x)) ∙ same ∙ pick_true _ _ _ (eq-eqb y.kind VAR var_y) in
    let k : x.k ≡ y.k = eqb-true _ _ (not-false _ (or_left _ _ agrees)) in
    let h : x.h ≡ y.h = eqb-true _ _ (not-false _ (or_right (not (eqb x.k y.k)) _ agrees)) in
    rw (var_x, var_y, a, k, h)
  where
    is_var : (z : Row) → (cond (eqb z.kind VAR) z.a 0 ≡ 0 → ⊥) → z.kind ≡ VAR
    is_var z h = test_case (eqb z.kind VAR) (eqb-true z.kind VAR) (λ (e : eqb z.kind VAR ≡ false). absurd (h (pick_false _ _ _ e)))
