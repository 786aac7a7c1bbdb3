-- The row that a negative base names is there: what NEG of a NEG asks of it. Assumes nothing.
use Prim.Native.Nat.{ℕ, ◌<◌}
use native.Mathlib.Omega.{arith}
use mathlib.Core.Path.{◌≡◌, sym, ap, ◌∙◌}
use mathlib.Core.List.{List}
use Rattle.row.specs.Names.{NEG}
use Rattle.term.specs.Term.{Term, const, var, shift, sum, diff, neg, read, fresh, write}
use Rattle.term.specs.Base.{base_of, shape_of, left_of}
use Rattle.term.specs.Bytes.{look}
use Rattle.walks.specs.declared.value.Value.{Value}
use Rattle.walks.specs.Value.{value_from, value_of, value_at}
use Rattle.walks.specs.Ready.{NamesBelow}
use Rattle.rules.specs.Ready.{Unary, Negating}

-- the row that a negative base names is below: NEG alone has such a base
negative_names : (x : ℕ) (t : Term) → (value_of x t).kind ≡ NEG → NamesBelow x t → (value_of x t).a < x
unfolding value_of value_from base_of shape_of left_of
negative_names x (const k) e n = absurd (omega arith)
negative_names x (var name k h) e n = absurd (omega arith)
negative_names x (shift a k) e n = absurd (omega arith)
negative_names x (sum a b k) e n = absurd (omega arith)
negative_names x (diff a b k) e n = absurd (omega arith)
negative_names x (neg a k) e n = n
negative_names x (read a b) e n = absurd (omega arith)
negative_names x fresh e n = absurd (omega arith)
negative_names x (write a b c) e n = absurd (omega arith)

module _ (R : List ℕ) (r a : ℕ) (v : Value) (given : Negating R r a v) (kind : v.kind ≡ NEG) where
  named : v.a < a
  unfolding value_at
  named =
      rw given.value
      (negative_names a (look R a) (ap (λ (u : Value). u.kind) (sym given.value) ∙ kind) (given.operand.rows.names a given.operand.below))

  pub negative_below : Unary R r v.a
  negative_below =
      record {
        rows = given.operand.rows;
        below = omega (arith, named, given.operand.below);
      }
