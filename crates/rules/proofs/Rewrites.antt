-- The rewriting step, by the kind of the row, and what its rules ask. Assumes nothing.
use Prim.Native.Nat.{ℕ}
use mathlib.Core.Path.{◌≡◌, refl, ap, ◌∙◌}
use mathlib.Core.Bool.{false}
use mathlib.Core.List.{List}
use Rattle.range.specs.declared.Range.{Range}
use Rattle.row.specs.declared.Row.{Row}
use Rattle.row.specs.Bytes.{row}
use Rattle.row.specs.Kinds.{StatesNone}
use Rattle.row.specs.Names.{CONST, VAR, SHIFT, SUM, DIFF, NEG, READ, FRESH, WRITE}
use Rattle.term.specs.Term.{Term, const, var, shift, sum, diff, neg, read, fresh, write, term_of, row_of, is_read}
use Rattle.term.specs.Rule.{shift_rule, sum_rule, diff_rule, neg_rule, write_rule, rule}
use Rattle.term.proofs.Compared.{none_compared}
use Rattle.walks.specs.Ready.{NamesBelow, SortsIn, Following}
use Rattle.walks.proofs.Terms.{
  term_const,
  term_var,
  term_shift,
  term_sum,
  term_diff,
  term_neg,
  term_read,
  term_fresh,
  term_write,
  term_none,
}
use Rattle.rules.specs.declared.Made.{Made}
use Rattle.rules.specs.Made.{made, Makes}
use Rattle.rules.specs.Ready.{Unary, Binary, Reading, Writing, Asked, Traced}

-- ---- what the rules ask

module _ (R : List ℕ) (r : ℕ) (x : Row) (given : Asked R r (term_of x)) where
  pub asked_shift : x.kind ≡ SHIFT → Unary R r x.a
  asked_shift e =
      let names : NamesBelow r (shift x.a x.k) = rw (term_shift x e) at given.names in
      record { rows = given.rows; below = names }

  pub asked_sum : x.kind ≡ SUM → Binary R r x.a x.b
  asked_sum e =
      let names : NamesBelow r (sum x.a x.b x.k) = rw (term_sum x e) at given.names in
      record { rows = given.rows; left = names.0; right = names.1 }

  pub asked_diff : x.kind ≡ DIFF → Binary R r x.a x.b
  asked_diff e =
      let names : NamesBelow r (diff x.a x.b x.k) = rw (term_diff x e) at given.names in
      record { rows = given.rows; left = names.0; right = names.1 }

  pub asked_neg : x.kind ≡ NEG → Unary R r x.a
  asked_neg e =
      let names : NamesBelow r (neg x.a x.k) = rw (term_neg x e) at given.names in
      record { rows = given.rows; below = names }

  pub asked_read : x.kind ≡ READ → Reading R r x.a x.b
  asked_read e =
      let names : NamesBelow r (read x.a x.b) = rw (term_read x e) at given.names in
      record { rows = given.rows; array = names.0; index = names.1 }

  pub asked_write : x.kind ≡ WRITE → Writing R r x.a x.b x.c
  asked_write e =
      let names : NamesBelow r (write x.a x.b x.c) = rw (term_write x e) at given.names in
      record { rows = given.rows; array = names.0; index = names.1; element = names.2 }

-- the array of a READ is one
module _ (R : List ℕ) (S : List Range) (r : ℕ) (x : Row) (given : Traced R S r (term_of x)) where
  pub asked_follow : x.kind ≡ READ → Following R S r x.a
  asked_follow e =
      let sorts : SortsIn R (read x.a x.b) = rw (term_read x e) at given.sorts in
      record { links = given.links; sorted = given.sorted; array = sorts.0 }

-- ---- the ways out of the code

module _ (M limit : ℕ) (f : ℕ → Term) (g : ℕ → Range) (x : Row) (y : Made) where
  -- a rule that walks makes more than a row
  pub rewrite_read : x.kind ≡ READ → Makes M limit f g (read x.a x.b) y → Makes M limit f g (term_of x) y
  rewrite_read e q = rw (term_read x e) q

  module _ {z : Row} (made-at-once : y ≡ made z 0) where
    at_once : (t : Term) → term_of x ≡ t → is_read t ≡ false → z ≡ row_of (rule M limit f g t) → Makes M limit f g (term_of x) y
    at_once t e word q = rw e (record { row = ap (λ (v : Made). v.row) made-at-once ∙ q; compared = ap (λ (v : Made). v.compared) made-at-once ∙ none_compared limit f g t word })

    pub rewrite_const : x.kind ≡ CONST → z ≡ row CONST 0 0 0 x.k 0 → Makes M limit f g (term_of x) y
    unfolding rule row_of is_read
    rewrite_const e q = at_once (const x.k) (term_const x e) refl q

    pub rewrite_var : x.kind ≡ VAR → z ≡ row VAR x.a 0 0 x.k x.h → Makes M limit f g (term_of x) y
    unfolding rule row_of is_read
    rewrite_var e q = at_once (var x.a x.k x.h) (term_var x e) refl q

    pub rewrite_shift : x.kind ≡ SHIFT → z ≡ row_of (shift_rule M f x.a x.k) → Makes M limit f g (term_of x) y
    unfolding rule is_read
    rewrite_shift e q = at_once (shift x.a x.k) (term_shift x e) refl q

    pub rewrite_sum : x.kind ≡ SUM → z ≡ row_of (sum_rule M f x.a x.b x.k) → Makes M limit f g (term_of x) y
    unfolding rule is_read
    rewrite_sum e q = at_once (sum x.a x.b x.k) (term_sum x e) refl q

    pub rewrite_diff : x.kind ≡ DIFF → z ≡ row_of (diff_rule M f x.a x.b x.k) → Makes M limit f g (term_of x) y
    unfolding rule is_read
    rewrite_diff e q = at_once (diff x.a x.b x.k) (term_diff x e) refl q

    pub rewrite_neg : x.kind ≡ NEG → z ≡ row_of (neg_rule M f x.a x.k) → Makes M limit f g (term_of x) y
    unfolding rule is_read
    rewrite_neg e q = at_once (neg x.a x.k) (term_neg x e) refl q

    pub rewrite_fresh : x.kind ≡ FRESH → z ≡ row FRESH 0 0 0 0 0 → Makes M limit f g (term_of x) y
    unfolding rule row_of is_read
    rewrite_fresh e q = at_once fresh (term_fresh x e) refl q

    pub rewrite_write : x.kind ≡ WRITE → z ≡ row_of (write_rule f g x.a x.b x.c) → Makes M limit f g (term_of x) y
    unfolding rule is_read
    rewrite_write e q = at_once (write x.a x.b x.c) (term_write x e) refl q

    pub rewrite_none : StatesNone x.kind → z ≡ row CONST 0 0 0 0 0 → Makes M limit f g (term_of x) y
    unfolding rule row_of is_read
    rewrite_none n q = at_once (const 0) (term_none x n) refl q
