-- Names of variables: document 02, A2. A row states a name where it is a VAR whose field a is not 0, and the first row of a name is the one variable that all
-- rows of the name are.
use Rattle.std.specs.Prelude.{ℕ, zero, suc, cond, List, eqb}
use Rattle.row.specs.declared.Row.{Row}
use Rattle.row.specs.Names.{VAR}
use Rattle.row.specs.Bytes.{row_from, row_at}

-- the name that a row states; 0 is none
unfoldable pub name_of : Row → ℕ
name_of x = cond (eqb x.kind VAR) x.a 0

-- of the row whose bytes begin at `at`, and of row r of a table
unfoldable pub name_from : List ℕ → ℕ → ℕ
name_from t at = name_of (row_from t at)

unfoldable pub name_at : List ℕ → ℕ → ℕ
name_at t r = name_of (row_at t r)

-- the first of the rows below n that states the name, n where none does; `names` tells what each row states
unfoldable pub first_named : (ℕ → ℕ) → ℕ → ℕ → ℕ
first_named names name zero = zero
first_named names name (suc n) = cond (eqb (names (first_named names name n)) name) (first_named names name n) (suc n)

-- the first row of the name of row x; a row without a name is its own first
unfoldable pub first_of : (ℕ → ℕ) → ℕ → ℕ
first_of names x = cond (eqb (names x) 0) x (first_named names (names x) x)
