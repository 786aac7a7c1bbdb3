-- What is asked of a row before its faults are looked for.
use Rattle.std.specs.Prelude.{ℕ, ◌+◌, ◌≤◌, ◌<◌, ◌≡◌, false, List, length}
use Rattle.row.specs.Names.{LENGTH, place}
use Rattle.row.specs.Bytes.{row_at}
use Rattle.row.specs.declared.Row.{Row}
use Rattle.table.specs.declared.Uses.{Uses}
use Rattle.table.specs.Uses.{uses_of}
use Rattle.table.specs.Refusals.{width, not_below}

-- what the check asks of a reference field f of row r before it looks at the row that it names
pub record Named (t : List ℕ) (r : ℕ) (u : Uses) (x : Row) (f : ℕ) : Type 0 where
  pub field : f < 3
  pub below : not_below r u x f ≡ false
  pub within : place r ≤ length t

-- what the check asks of row r, which is x, and of u and w before it looks at the row's own bytes
pub record OwnAsked (t : List ℕ) (w r : ℕ) (u : Uses) (x : Row) : Type 0 where
  pub is_width : w ≡ width t
  pub is_uses : u ≡ uses_of x.kind
  pub within : place r + LENGTH ≤ length t

-- what the check asks of row r, which is x, and of the first row of its name
pub record FirstAsked (t : List ℕ) (r : ℕ) (x : Row) (first : ℕ) : Type 0 where
  pub is_row : x ≡ row_at t r
  pub low : first ≤ r
  pub within : place r + LENGTH ≤ length t
