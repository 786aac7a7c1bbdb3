-- An edit of one row: document 01, "Edit". A read compares at most `limit` stores: document 02, A8.
use Rattle.std.specs.Prelude.{ℕ, ◌≡◌, Bool, cond, List}
use Rattle.basis.specs.Reason.{first}
use Rattle.basis.specs.Count.{count_where}
use Rattle.row.specs.Bytes.{source_at}
use Rattle.table.specs.Verdict.{Verdict}
use Rattle.table.specs.Refusals.{rows, given, accepted, check_rows}
use Rattle.term.specs.Term.{Term}
use Rattle.term.specs.Result.{renewed, touched_in, removed_rows}
use Rattle.term.specs.Compared.{compared_rows}
use Rattle.term.specs.Bytes.{look, edited, put_rows}
use Rattle.judge.specs.Verdict.{is_accepted}
use Rattle.judge.specs.Kept.{kept_part, kept_verdict}
use Rattle.judge.specs.Edit.{edit_reasons}
use Rattle.simplify.specs.declared.Answer.{Answer}
use Rattle.simplify.specs.Answer.{modulus, answered}

-- 1 to 8 and 19; then 9 to 15 and 18 with the replacement in place; then 16
unfoldable pub edit_verdict : List ℕ → List ℕ → ℕ → List ℕ → ℕ → Verdict
edit_verdict t kept r replacement limit =
    given (first (edit_reasons t kept r replacement limit)) 0
    (check_rows (edited t r replacement) (kept_verdict (edited t r replacement) (kept_part t kept) accepted))

-- from the table as it stood before to the edited table t: the rows that the edit of row r touches
unfoldable pub is_touched : List ℕ → List ℕ → ℕ → ℕ → Bool
is_touched before t r = touched_in (look before) (look t) r

-- the rows of the kept result after the edit
unfoldable pub edited_rows : ℕ → List ℕ → List ℕ → ℕ → List ℕ → ℕ → Term
edited_rows limit before t r kept = renewed (modulus t) limit (is_touched before t r) (look t) (look (kept_part t kept))

-- row r and the rows that lead back to it are worked out anew, each with the source of the edited table's own row; all else stays
unfoldable pub edited_bytes : ℕ → List ℕ → List ℕ → ℕ → List ℕ → List ℕ
edited_bytes limit before t r kept = put_rows (is_touched before t r) (edited_rows limit before t r kept) (source_at t) (rows t) kept

-- how many rows are READ in the edited table and not in the kept result after the edit
unfoldable pub edited_removed : ℕ → List ℕ → List ℕ → ℕ → List ℕ → ℕ
edited_removed limit before t r kept = removed_rows (look t) (edited_rows limit before t r kept) (rows t)

-- how many rows are worked out anew
unfoldable pub touched_rows : List ℕ → List ℕ → ℕ → ℕ
touched_rows before t r = count_where (is_touched before t r) (rows t)

-- how many stores the reads among them compare
unfoldable pub edited_compared : ℕ → List ℕ → List ℕ → ℕ → List ℕ → ℕ
edited_compared limit before t r kept =
    compared_rows (modulus t) limit (is_touched before t r) (look t) (edited_rows limit before t r kept) (rows t)

unfoldable pub edit_answer : List ℕ → List ℕ → ℕ → List ℕ → ℕ → Answer
edit_answer t kept r replacement limit =
    answered (edit_verdict t kept r replacement limit)
    (edited_removed limit t (edited t r replacement) r kept)
    (touched_rows t (edited t r replacement) r)
    (edited_compared limit t (edited t r replacement) r kept)

unfoldable pub edit_table : List ℕ → List ℕ → ℕ → List ℕ → ℕ → List ℕ
edit_table t kept r replacement limit = cond (is_accepted (edit_verdict t kept r replacement limit)) (edited t r replacement) t

unfoldable pub edit_kept : List ℕ → List ℕ → ℕ → List ℕ → ℕ → List ℕ
edit_kept t kept r replacement limit =
    cond (is_accepted (edit_verdict t kept r replacement limit)) (edited_bytes limit t (edited t r replacement) r kept) kept

-- the promise: the buffers and the limit as they came, the answer, and the buffers as they are left
pub record Edited (t kept : List ℕ) (r : ℕ) (replacement : List ℕ) (limit : ℕ) (answer : Answer) (table_left kept_left : List ℕ) : Type 0 where
  pub answer_is : answer ≡ edit_answer t kept r replacement limit
  pub table_is : table_left ≡ edit_table t kept r replacement limit
  pub kept_is : kept_left ≡ edit_kept t kept r replacement limit
