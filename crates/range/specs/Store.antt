-- The ranges of many rows.
use Rattle.std.specs.Prelude.{ℕ, List, get_or, set}
use Rattle.range.specs.declared.Range.{Range}
use Rattle.range.specs.Range.{point}

-- the range kept for row x
unfoldable pub kept : List Range → ℕ → Range
kept store x = get_or store x (point 0)

-- the store with a for row x
unfoldable pub keep : List Range → ℕ → Range → List Range
keep store x a = set store x a
