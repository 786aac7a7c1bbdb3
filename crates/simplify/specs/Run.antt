-- A fresh run: document 01, "Fresh run". A read compares at most `limit` stores: document 02, A8.
use Rattle.std.specs.Prelude.{ℕ, ◌≡◌, true, cond, List, take}
use Rattle.std.proofs.lemmas.List.Edits.{sets}
use Rattle.row.specs.Names.{HEADER}
use Rattle.row.specs.Bytes.{source_at}
use Rattle.table.specs.Refusals.{rows}
use Rattle.term.specs.Term.{Term}
use Rattle.term.specs.Result.{result, removed_rows}
use Rattle.term.specs.Compared.{compared_rows}
use Rattle.term.specs.Bytes.{look, put_rows}
use Rattle.judge.specs.Verdict.{is_accepted}
use Rattle.judge.specs.Run.{run_verdict}
use Rattle.simplify.specs.declared.Answer.{Answer}
use Rattle.simplify.specs.Answer.{modulus, answered}

-- the rows of a table's fresh result
unfoldable pub fresh_rows : ℕ → List ℕ → ℕ → Term
fresh_rows limit t = result (modulus t) limit (look t)

-- the fresh result in the buffer: the header of the table, then the rows, each with the source of the table's own; later bytes stay
unfoldable pub fresh_bytes : ℕ → List ℕ → List ℕ → List ℕ
fresh_bytes limit t buffer = put_rows (λ x. true) (fresh_rows limit t) (source_at t) (rows t) (sets buffer 0 (take HEADER t))

-- how many reads it removes
unfoldable pub fresh_removed : ℕ → List ℕ → ℕ
fresh_removed limit t = removed_rows (look t) (fresh_rows limit t) (rows t)

-- how many stores all its reads compare
unfoldable pub fresh_compared : ℕ → List ℕ → ℕ
fresh_compared limit t = compared_rows (modulus t) limit (λ x. true) (look t) (fresh_rows limit t) (rows t)

unfoldable pub run_answer : List ℕ → List ℕ → ℕ → Answer
run_answer t buffer limit = answered (run_verdict t buffer limit) (fresh_removed limit t) (rows t) (fresh_compared limit t)

unfoldable pub run_result : List ℕ → List ℕ → ℕ → List ℕ
run_result t buffer limit = cond (is_accepted (run_verdict t buffer limit)) (fresh_bytes limit t buffer) buffer

-- the promise: table, result slice and limit as they came, the answer, and the result slice as it is left
pub record Ran (t buffer : List ℕ) (limit : ℕ) (answer : Answer) (left : List ℕ) : Type 0 where
  pub answer_is : answer ≡ run_answer t buffer limit
  pub result_is : left ≡ run_result t buffer limit
