-- The value of a row, by its kind: what the code makes is what document 01 reads from the row. Assumes nothing.
use Prim.Native.Nat.{ℕ, ◌≤◌, ◌<◌}
use native.Mathlib.Omega.{arith}
use mathlib.Core.Path.{◌≡◌, refl, ◌∙◌}
use mathlib.Core.List.{List}
use borrow.Author.Tests.{ne_eqb}
use Rattle.row.specs.declared.Row.{Row}
use Rattle.row.specs.Bytes.{Decoded}
use Rattle.row.specs.Names.{CONST, VAR, SHIFT, SUM, DIFF, NEG, WRITE}
use Rattle.term.specs.Term.{term_of}
use Rattle.term.specs.Base.{base_of, offset_of, shape_of, left_of, right_of}
use Rattle.term.specs.Bytes.{look}
use Rattle.term.proofs.Rows.{kind_case}
use Rattle.walks.specs.declared.value.Value.{Value}
use Rattle.walks.specs.Value.{value, value_from, value_of, value_at, second_of}
use Rattle.walks.proofs.Terms.{
  term_const,
  term_var,
  term_shift,
  term_sum,
  term_diff,
  term_neg,
  term_read,
  term_fresh,
  term_write,
  term_zero,
  term_beyond,
}

-- ---- the second row

module _ (x : Row) where
  pub second_sum : x.kind ≡ SUM → x.b ≡ second_of x
  unfolding second_of
  second_sum e = rw e

  pub second_diff : x.kind ≡ DIFF → x.b ≡ second_of x
  unfolding second_of
  second_diff e = rw e

  pub second_none : (x.kind ≡ SUM → ⊥) → (x.kind ≡ DIFF → ⊥) → 0 ≡ second_of x
  unfolding second_of
  second_none s d = rw (ne_eqb x.kind SUM s, ne_eqb x.kind DIFF d)

-- ---- the ways out of the code

module _ (x : Row) (r : ℕ) where
  made : ℕ → Type 0
  made kind = x.kind ≡ kind → SHIFT ≤ kind → kind ≤ NEG → value kind x.a (second_of x) x.k ≡ value_of r (term_of x)

  own : ℕ → Type 0
  own kind = x.kind ≡ kind → NEG < kind → value SHIFT r 0 0 ≡ value_of r (term_of x)

  shaped : (kind : ℕ) → 1 ≤ kind → kind ≤ 9 → made kind
  unfolding made value_of value_from base_of offset_of shape_of left_of right_of second_of
  shaped =
      kind_case made
      (λ e (l : 3 ≤ 1) h. absurd (omega arith))
      (λ e (l : 3 ≤ 2) h. absurd (omega arith))
      (λ e l h. rw (term_shift x e, e))
      (λ e l h. rw (term_sum x e, e))
      (λ e l h. rw (term_diff x e, e))
      (λ e l h. rw (term_neg x e, e))
      (λ e l (h : 7 ≤ 6). absurd (omega arith))
      (λ e l (h : 8 ≤ 6). absurd (omega arith))
      (λ e l (h : 9 ≤ 6). absurd (omega arith))

  owned : (kind : ℕ) → 1 ≤ kind → kind ≤ 9 → own kind
  unfolding own value_of value_from base_of offset_of shape_of left_of right_of
  owned =
      kind_case own
      (λ e (l : 6 < 1). absurd (omega arith))
      (λ e (l : 6 < 2). absurd (omega arith))
      (λ e (l : 6 < 3). absurd (omega arith))
      (λ e (l : 6 < 4). absurd (omega arith))
      (λ e (l : 6 < 5). absurd (omega arith))
      (λ e (l : 6 < 6). absurd (omega arith))
      (λ e l. rw (term_read x e))
      (λ e l. rw (term_fresh x e))
      (λ e l. rw (term_write x e))

  module _ (v : Value) where
    pub value_shaped : (b : ℕ) → SHIFT ≤ x.kind → x.kind ≤ NEG → b ≡ second_of x → v ≡ value x.kind x.a b x.k → v ≡ value_of r (term_of x)
    unfolding made
    value_shaped b l h e q = q ∙ rw e (shaped x.kind (omega arith) (omega arith) refl l h)

    pub value_shift : x.kind ≡ SHIFT → v ≡ value SHIFT x.a 0 x.k → v ≡ value_of r (term_of x)
    unfolding value_of value_from base_of offset_of shape_of left_of right_of
    value_shift e q = rw (term_shift x e) q

    pub value_own : NEG < x.kind → x.kind ≤ WRITE → v ≡ value SHIFT r 0 0 → v ≡ value_of r (term_of x)
    unfolding own
    value_own l h q = q ∙ owned x.kind (omega arith) h refl l

    pub value_beyond : WRITE < x.kind → v ≡ value CONST 0 0 0 → v ≡ value_of r (term_of x)
    unfolding value_of value_from base_of offset_of shape_of left_of right_of
    value_beyond h q = rw (term_beyond x h) q

    pub value_var : x.kind ≡ VAR → v ≡ value SHIFT r 0 0 → v ≡ value_of r (term_of x)
    unfolding value_of value_from base_of offset_of shape_of left_of right_of
    value_var e q = rw (term_var x e) q

    pub value_const : x.kind ≡ CONST → v ≡ value CONST 0 0 x.k → v ≡ value_of r (term_of x)
    unfolding value_of value_from base_of offset_of shape_of left_of right_of
    value_const e q = rw (term_const x e) q

    pub value_none : x.kind < SHIFT → (x.kind ≡ VAR → ⊥) → (x.kind ≡ CONST → ⊥) → v ≡ value CONST 0 0 0 → v ≡ value_of r (term_of x)
    unfolding value_of value_from base_of offset_of shape_of left_of right_of
    value_none l m n q = rw (term_zero x (omega arith)) q

-- ---- a row of the result

module _ (R : List ℕ) (r : ℕ) (x : Row) (v : Value) where
  pub value_decoded : Decoded R r x → v ≡ value_of r (term_of x) → v ≡ value_at (look R) r
  unfolding value_at look
  value_decoded d e = rw (← d.is) e
