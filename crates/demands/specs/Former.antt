-- The promises of a run and an edit as they are without document 02, A8: no limit is stated, so that 19 is not given, a read compares at most 1,024 stores, and four
-- numbers are answered. No function has them: a run and an edit with the limit 1,024 are held to them. Names that are not defined here mean what they mean there.
use Rattle.std.specs.Prelude.{ℕ, ◌≡◌, true, cond, not, List, [], ◌∷◌, ◌++◌, length, take, leb, eqb}
use Rattle.std.proofs.lemmas.List.Edits.{sets}
use Rattle.basis.specs.Reason.{Reason, ◌when◌, first}
use Rattle.row.specs.Names.{HEADER, LENGTH}
use Rattle.row.specs.Bytes.{source_at}
use Rattle.table.specs.Verdict.{Verdict}
use Rattle.table.specs.Refusals.{rows, given, accepted, check_rows}
use Rattle.term.specs.Term.{Term}
use Rattle.term.specs.Result.{result, renewed, removed_rows}
use Rattle.term.specs.Bytes.{look, edited, put_rows}
use Rattle.judge.specs.Verdict.{is_accepted}
use Rattle.judge.specs.Run.{room_reasons}
use Rattle.judge.specs.Kept.{kept_part, kept_verdict}
use Rattle.simplify.specs.declared.Answer.{Answer}
use Rattle.simplify.specs.Answer.{modulus}
use Rattle.simplify.specs.Edit.{is_touched, touched_rows}

-- four numbers
pub record Four : Type 0 where
  pub refusal : ℕ
  pub row : ℕ
  pub removed : ℕ
  pub touched : ℕ

-- an answer but for the stores compared
unfoldable pub four_of : Answer → Four
four_of a = record { refusal = a.refusal; row = a.row; removed = a.removed; touched = a.touched }

-- removed and touched are 0 on refusal
unfoldable pub answered : Verdict → ℕ → ℕ → Four
answered v removed touched =
    record { refusal = v.number; row = v.row; removed = cond (is_accepted v) removed 0; touched = cond (is_accepted v) touched 0 }

-- ---- a fresh run

unfoldable pub run_verdict : List ℕ → List ℕ → Verdict
run_verdict t buffer = given (first (room_reasons t buffer)) 0 (check_rows t accepted)

unfoldable pub fresh_rows : List ℕ → ℕ → Term
fresh_rows t = result (modulus t) 1024 (look t)

unfoldable pub fresh_bytes : List ℕ → List ℕ → List ℕ
fresh_bytes t buffer = put_rows (λ x. true) (fresh_rows t) (source_at t) (rows t) (sets buffer 0 (take HEADER t))

unfoldable pub run_answer : List ℕ → List ℕ → Four
run_answer t buffer = answered (run_verdict t buffer) (removed_rows (look t) (fresh_rows t) (rows t)) (rows t)

unfoldable pub run_result : List ℕ → List ℕ → List ℕ
run_result t buffer = cond (is_accepted (run_verdict t buffer)) (fresh_bytes t buffer) buffer

pub record Ran (t buffer : List ℕ) (answer : Four) (left : List ℕ) : Type 0 where
  pub answer_is : answer ≡ run_answer t buffer
  pub result_is : left ≡ run_result t buffer

-- ---- an edit

-- 1 to 8
unfoldable pub edit_reasons : List ℕ → List ℕ → ℕ → List ℕ → List Reason
edit_reasons t kept r replacement = room_reasons t kept ++ 7 when leb (rows t) r ∷ 8 when not (eqb (length replacement) LENGTH) ∷ []

unfoldable pub edit_verdict : List ℕ → List ℕ → ℕ → List ℕ → Verdict
edit_verdict t kept r replacement =
    given (first (edit_reasons t kept r replacement)) 0
    (check_rows (edited t r replacement) (kept_verdict (edited t r replacement) (kept_part t kept) accepted))

unfoldable pub edited_rows : List ℕ → List ℕ → ℕ → List ℕ → ℕ → Term
edited_rows before t r kept = renewed (modulus t) 1024 (is_touched before t r) (look t) (look (kept_part t kept))

unfoldable pub edited_bytes : List ℕ → List ℕ → ℕ → List ℕ → List ℕ
edited_bytes before t r kept = put_rows (is_touched before t r) (edited_rows before t r kept) (source_at t) (rows t) kept

unfoldable pub edit_answer : List ℕ → List ℕ → ℕ → List ℕ → Four
edit_answer t kept r replacement =
    answered (edit_verdict t kept r replacement)
    (removed_rows (look (edited t r replacement)) (edited_rows t (edited t r replacement) r kept) (rows t))
    (touched_rows t (edited t r replacement) r)

unfoldable pub edit_table : List ℕ → List ℕ → ℕ → List ℕ → List ℕ
edit_table t kept r replacement = cond (is_accepted (edit_verdict t kept r replacement)) (edited t r replacement) t

unfoldable pub edit_kept : List ℕ → List ℕ → ℕ → List ℕ → List ℕ
edit_kept t kept r replacement = cond (is_accepted (edit_verdict t kept r replacement)) (edited_bytes t (edited t r replacement) r kept) kept

pub record Edited (t kept : List ℕ) (r : ℕ) (replacement : List ℕ) (answer : Four) (table_left kept_left : List ℕ) : Type 0 where
  pub answer_is : answer ≡ edit_answer t kept r replacement
  pub table_is : table_left ≡ edit_table t kept r replacement
  pub kept_is : kept_left ≡ edit_kept t kept r replacement
