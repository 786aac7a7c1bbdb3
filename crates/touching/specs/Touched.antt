-- Marking the rows that an edit touches. T are the bytes of the edited table, r is the row that was replaced, `old` the bytes that stood there, n the row count.
use Rattle.std.specs.Prelude.{ℕ, ◌+◌, ◌≤◌, ◌<◌, ◌≡◌, Bool, true, false, cond, not, ◌&&◌, ◌||◌, List, eqb, length}
use Rattle.basis.specs.Count.{count_where}
use Rattle.row.specs.declared.Row.{Row}
use Rattle.row.specs.Names.{LENGTH, place}
use Rattle.row.specs.Bytes.{row_at}
use Rattle.names.specs.First.{first_named}
use Rattle.table.specs.declared.Use.{Use}
use Rattle.table.specs.Uses.{is_reference}
use Rattle.table.specs.Refusals.{MOST, rows}
use Rattle.table.specs.Accepted.{Accepted}
use Rattle.term.specs.Term.{term_of}
use Rattle.term.specs.WellFormed.{Names}
use Rattle.term.specs.Result.{touched_in}
use Rattle.term.specs.Bytes.{look, edited}
use Rattle.marks.specs.Marks.{marked, ones_of}

-- the name where no row below r states it, so that r, which states it, is its first row; else 0; `names` tells what each row states
unfoldable pub leading : (ℕ → ℕ) → ℕ → ℕ → ℕ
leading names name r = cond (eqb (first_named names name r) r) name 0

-- a row that states the name is of one whose first row is r: `was` is the name that r led before the edit, `is` the one that it leads after. No row before r
-- states either, so that a row other than r is a later one.
unfoldable pub follows : ℕ → ℕ → ℕ → Bool
follows was is name = not (eqb name 0) && (eqb name was || eqb name is)

-- the rows that the edit touches
abbrev pub touched_with : List ℕ → List ℕ → ℕ → ℕ → Bool
touched_with T old r = touched_in (look (edited T r old)) (look T) r

-- a field that is used to refer to a row refers to one that has a mark
pub record HasMark (used : Use) (x : ℕ) : Type 0 where
  pub below : is_reference used ≡ true → x < MOST

-- a row of some kind that names rows which have a mark
pub record Named (x : Row) : Type 0 where
  pub kind_low : 1 ≤ x.kind
  pub kind_high : x.kind ≤ 9
  pub names : Names (λ array y. y < MOST) (term_of x)

-- row x of a table is there, and is such a row
pub record Reached (T : List ℕ) (x : ℕ) : Type 0 where
  pub room : place x + LENGTH ≤ length T
  pub named : Named (row_at T x)

-- an accepted table of n rows, one of them r, the bytes of a row, and marks of which none is set
pub record CanMark (T old : List ℕ) (n r : ℕ) (marks : List ℕ) : Type 0 where
  pub ok : Accepted T
  pub few : n ≡ rows T
  pub row : r < n
  pub long : length old ≡ LENGTH
  pub none : (x : ℕ) → x < MOST → marked marks x ≡ false

-- the touched rows among the first n are marked and no other row is, and there are `count`, the ones of the sixteen words
pub record Marked (T old : List ℕ) (r n : ℕ) (marks : List ℕ) (count : ℕ) : Type 0 where
  pub marks_are : (x : ℕ) → x < n → marked marks x ≡ touched_with T old r x
  pub none_past : (x : ℕ) → n ≤ x → x < MOST → marked marks x ≡ false
  pub ones_are : count ≡ ones_of marks 16
  pub counted : count ≡ count_where (touched_with T old r) n
