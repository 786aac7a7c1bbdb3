-- The look at one row of a table whose head is in order.
use Rattle.std.specs.Prelude.{ℕ, ◌<◌, ◌≡◌, List}
use Rattle.row.specs.Bytes.{row_at}
use Rattle.row.specs.declared.Row.{Row}
use Rattle.names.specs.Slots.{Slots}
use Rattle.table.specs.Accepted.{GoodHead}
use Rattle.table.specs.Refusals.{width, rows}

-- what is asked of row r, which is x: it is a row of the table, and the rows below it were asked for their first rows
pub record RowAsked (t : List ℕ) (w r : ℕ) (x : Row) (slots : List ℕ) : Type 0 where
  pub head : GoodHead t
  pub is_width : w ≡ width t
  pub within : r < rows t
  pub is_row : x ≡ row_at t r
  pub asked : Slots t slots r
