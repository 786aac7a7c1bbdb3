-- The tables that the program reads: document 01, "Tables to try".
use Rattle.std.specs.Prelude.{ℕ, ◌≤◌, ◌≡◌}
use Rattle.row.specs.Names.{place}
use Rattle.table.specs.Refusals.{LARGEST}

-- n is the row count of a table of so many bytes, and whatever their number, as many rows stand in the largest table
pub record Counted (size n : ℕ) : Type 0 where
  pub exact : (rows : ℕ) → size ≡ place rows → n ≡ rows
  pub room : place n ≤ LARGEST
