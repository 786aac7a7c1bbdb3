-- A result row as it is made, with the number of stores that were compared for it.
use Rattle.std.specs.Prelude.{ℕ, ◌≡◌}
use Rattle.range.specs.declared.Range.{Range}
use Rattle.row.specs.declared.Row.{Row}
use Rattle.term.specs.Term.{Term, row_of}
use Rattle.term.specs.Rule.{rule}
use Rattle.term.specs.Result.{rule_at}
use Rattle.term.specs.Compared.{compared_by}
use Rattle.rules.specs.declared.Made.{Made}

abbrev pub made : Row → ℕ → Made
made row compared = record { row = row; compared = compared }

-- x is what the rule makes of a term
pub record Makes (M limit : ℕ) (f : ℕ → Term) (g : ℕ → Range) (t : Term) (x : Made) : Type 0 where
  pub row : x.row ≡ row_of (rule M limit f g t)
  pub compared : x.compared ≡ compared_by limit f g t

-- x is what is made of row r of the table t
pub record MakesAt (M limit : ℕ) (t f : ℕ → Term) (g : ℕ → Range) (r : ℕ) (x : Made) : Type 0 where
  pub row : x.row ≡ row_of (rule_at M limit t f g r)
  pub compared : x.compared ≡ compared_by limit f g (t r)
