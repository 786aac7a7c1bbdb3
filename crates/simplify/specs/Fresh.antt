-- The fresh result written into a lent slice, with the ranges of its word rows.
use Rattle.std.specs.Prelude.{ℕ, ◌≤◌, ◌<◌, ◌≡◌, false, List, length}
use Rattle.range.specs.declared.Range.{Range}
use Rattle.range.specs.Store.{kept}
use Rattle.table.specs.Refusals.{rows, check_table, accepted}
use Rattle.term.specs.Term.{is_array}
use Rattle.term.specs.Relation.{range_of}
use Rattle.term.specs.Bytes.{look}
use Rattle.judge.specs.Run.{LIMIT}
use Rattle.renew.specs.declared.Counts.{Counts}
use Rattle.simplify.specs.Answer.{modulus}
use Rattle.simplify.specs.Run.{fresh_rows, fresh_bytes, fresh_removed, fresh_compared}

-- an accepted table, room for its result and for ranges, and a limit
pub record CanFresh (t buffer : List ℕ) (store : List Range) (limit : ℕ) : Type 0 where
  pub table : check_table t ≡ accepted
  pub room : length t ≤ length buffer
  pub limited : limit ≤ LIMIT

pub record Freshly (t buffer : List ℕ) (limit : ℕ) (left : List ℕ) (store : List Range) (counts : Counts) : Type 0 where
  pub result : left ≡ fresh_bytes limit t buffer
  pub rows_are : (x : ℕ) → x < rows t → look left x ≡ fresh_rows limit t x
  pub ranges_are : (x : ℕ) → x < rows t → is_array (look t x) ≡ false → kept store x ≡ range_of (modulus t) (fresh_rows limit t) x
  pub removed : counts.removed ≡ fresh_removed limit t
  pub compared : counts.compared ≡ fresh_compared limit t
