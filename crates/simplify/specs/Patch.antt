-- The parts of an edit: rows moved as bytes, and the rows worked out anew.
use Rattle.std.specs.Prelude.{ℕ, ◌+◌, ◌≤◌, ◌<◌, ◌≡◌, false, List, length}
use Rattle.row.specs.Names.{LENGTH, place}
use Rattle.table.specs.Refusals.{rows, accepted, check_table}
use Rattle.term.specs.Bytes.{edited}
use Rattle.judge.specs.Run.{LIMIT}
use Rattle.judge.specs.Kept.{kept_part, kept_wrong}
use Rattle.simplify.specs.declared.Answer.{Answer}
use Rattle.simplify.specs.Answer.{answer}
use Rattle.simplify.specs.Edit.{edited_bytes, edited_removed, touched_rows, edited_compared}

-- row r is there, and there is room for its bytes and no more
pub record CanTake (t : List ℕ) (r : ℕ) (old : List ℕ) : Type 0 where
  pub here : place r + LENGTH ≤ length t
  pub long : length old ≡ LENGTH

-- row r is there, and the bytes are those of a row
pub record CanPut (t : List ℕ) (r : ℕ) (bytes : List ℕ) : Type 0 where
  pub here : place r + LENGTH ≤ length t
  pub long : length bytes ≡ LENGTH

-- an accepted table with the row r, the bytes of the row that stood there before, a kept result that goes with the table, and a limit
pub record CanPatch (t old kept : List ℕ) (r limit : ℕ) : Type 0 where
  pub table : check_table t ≡ accepted
  pub row : r < rows t
  pub long : length old ≡ LENGTH
  pub room : length t ≤ length kept
  pub right : kept_wrong t (kept_part t kept) ≡ false
  pub limited : limit ≤ LIMIT

-- what an edit answers that is not refused, from the table as it stood before to the edited table t
unfoldable pub patch_answer : ℕ → List ℕ → List ℕ → ℕ → List ℕ → Answer
patch_answer limit before t r kept =
    answer 0 0 (edited_removed limit before t r kept) (touched_rows before t r) (edited_compared limit before t r kept)

pub record Patched (t old kept : List ℕ) (r limit : ℕ) (given : Answer) (left : List ℕ) : Type 0 where
  pub answer_is : given ≡ patch_answer limit (edited t r old) t r kept
  pub kept_is : left ≡ edited_bytes limit (edited t r old) t r kept
