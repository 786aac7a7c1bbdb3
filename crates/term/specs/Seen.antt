-- Rows of one name are one variable: document 02, A2. A later VAR of a name is a SHIFT of the first by 0, in the table as it is read and in its result.
use Rattle.std.specs.Prelude.{ℕ, Bool, cond, ltb}
use Rattle.names.specs.First.{first_of}
use Rattle.term.specs.Term.{Term, shift, stated_by}

module _ (t : ℕ → Term) (x : ℕ) where
  -- the first VAR of the name of row x of the table t; x itself where row x has no name
  unfoldable pub first_row : ℕ
  first_row = first_of (λ y. stated_by (t y)) x

  -- row x is a later VAR of its name
  unfoldable pub is_later : Bool
  is_later = ltb first_row x

  -- of a later VAR of a name SHIFT of the first by 0, of every other row the term given
  unfoldable pub by_name : Term → Term
  by_name own = cond is_later (shift first_row 0) own

  -- row x of the table as it is read
  unfoldable pub seen : Term
  seen = by_name (t x)
