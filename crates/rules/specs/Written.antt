-- One turn of a run. T are the bytes of the table, R those of the result, S is the store of ranges; R' and S' are what the turn leaves.
use Rattle.std.specs.Prelude.{ℕ, suc, ◌+◌, ◌^◌, ◌≤◌, ◌<◌, ◌≡◌, Bool, cond, List, length}
use Rattle.range.specs.declared.Range.{Range}
use Rattle.range.specs.Range.{span, point}
use Rattle.range.specs.Store.{kept, keep}
use Rattle.row.specs.Names.{LENGTH, place}
use Rattle.row.specs.Bytes.{source_at}
use Rattle.table.specs.Refusals.{MOST}
use Rattle.term.specs.Term.{Term, const, var, shift, sum, diff, neg, read, fresh, write, term_of, row_of}
use Rattle.term.specs.Bytes.{look, put_if}
use Rattle.term.specs.Relation.{range_by}
use Rattle.term.specs.Seen.{first_row, seen}
use Rattle.term.specs.Result.{rule_at}
use Rattle.term.specs.Compared.{compared_by}
use Rattle.term.specs.WellFormed.{Fits}
use Rattle.walks.specs.Ready.{NamesBelow, SortsIn, Standing, Sorted, Linked}
use Rattle.rules.specs.declared.Made.{Made}
use Rattle.rules.specs.Ready.{Ranged}

-- what the store keeps for a row: the range of a word. An array has none, and the place serves the walks: a WRITE has there the row that it is written on and
-- its index, a FRESH no row
unfoldable pub entry : ℕ → (ℕ → Range) → Term → Range
entry M g (const k) = range_by M g (const k)
entry M g (var name k h) = range_by M g (var name k h)
entry M g (shift a k) = range_by M g (shift a k)
entry M g (sum a b k) = range_by M g (sum a b k)
entry M g (diff a b k) = range_by M g (diff a b k)
entry M g (neg a k) = range_by M g (neg a k)
entry M g (read a b) = range_by M g (read a b)
entry M g fresh = point MOST
entry M g (write a b c) = span a b

-- what row r is worked out from: the table's row, as it is read, where it is touched, else the result's as it stands
unfoldable pub origin : List ℕ → List ℕ → ℕ → Bool → Term
origin T R r touched = cond touched (seen (look T) r) (look R r)

-- `first` is the first row of the name of row r of the table
pub record CanWrite (T R : List ℕ) (S : List Range) (w r first : ℕ) (touched : Bool) : Type 0 where
  pub width : w ≤ 64
  pub few : r < MOST
  pub table_room : place r + LENGTH ≤ length T
  pub room : place r + LENGTH ≤ length R
  pub rows : Standing R r
  pub sorted : Sorted R r
  pub ranges : Ranged (2 ^ w) R S r
  pub links : Linked R S r
  pub fits : Fits (2 ^ w) (origin T R r touched)
  pub names : NamesBelow r (origin T R r touched)
  pub sorts : SortsIn R (origin T R r touched)
  pub first_is : first ≡ first_row (look T) r

-- the bytes of the result with row r settled: a row that is made carries the source of the table's row
unfoldable pub settled : List ℕ → List ℕ → List Range → ℕ → ℕ → ℕ → Bool → List ℕ
settled T R S w limit r touched = put_if touched r (row_of (rule_at (2 ^ w) limit (look T) (look R) (kept S) r)) (source_at T r) R

-- the row that then stands there
unfoldable pub becomes : List ℕ → List ℕ → List Range → ℕ → ℕ → ℕ → Bool → Term
becomes T R S w limit r touched = cond touched (rule_at (2 ^ w) limit (look T) (look R) (kept S) r) (look R r)

-- how many stores are compared in the turn
unfoldable pub compared_in : List ℕ → List ℕ → List Range → ℕ → ℕ → Bool → ℕ
compared_in T R S limit r touched = cond touched (compared_by limit (look R) (kept S) (look T r)) 0

-- x is that row, with that number
pub record Settled (T R R' : List ℕ) (S : List Range) (w limit r : ℕ) (touched : Bool) (x : Made) : Type 0 where
  pub result : R' ≡ settled T R S w limit r touched
  pub row : term_of x.row ≡ look R' r
  pub becomes : term_of x.row ≡ becomes T R S w limit r touched
  pub fits : Fits (2 ^ w) (term_of x.row)
  pub names : NamesBelow r (term_of x.row)
  pub sorts : SortsIn R (term_of x.row)
  pub compared : x.compared ≡ compared_in T R S limit r touched

pub record Written (T R R' : List ℕ) (S S' : List Range) (w limit r : ℕ) (touched : Bool) (compared : ℕ) : Type 0 where
  pub result : R' ≡ settled T R S w limit r touched
  pub row : look R' r ≡ becomes T R S w limit r touched
  pub store : S' ≡ keep S r (entry (2 ^ w) (kept S) (look R' r))
  pub long : length S' ≡ MOST
  pub rows : Standing R' (suc r)
  pub sorted : Sorted R' (suc r)
  pub ranges : Ranged (2 ^ w) R' S' (suc r)
  pub links : Linked R' S' (suc r)
  pub counted : compared ≡ compared_in T R S limit r touched
