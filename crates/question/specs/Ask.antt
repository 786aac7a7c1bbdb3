-- A question about two rows of a kept result: document 01, "Comparison"; document 02, A6.
use Rattle.std.specs.Prelude.{ℕ, cond, List, Result, Ok, Err}
use Rattle.basis.specs.Reason.{first}
use Rattle.table.specs.Verdict.{Verdict}
use Rattle.table.specs.declared.Refusal.{Refusal}
use Rattle.table.specs.Fault.{number_of}
use Rattle.table.specs.Refusals.{given, check_rows}
use Rattle.term.specs.declared.Relation.{Relation}
use Rattle.term.specs.declared.Relation.TheVariants.{Unknown}
use Rattle.term.specs.declared.Reason.{Reason}
use Rattle.term.specs.declared.Reason.TheVariants.{Undecided}
use Rattle.term.specs.Term.{Term}
use Rattle.term.specs.Relation.{related, range_of}
use Rattle.term.specs.Reason.{reason}
use Rattle.term.specs.Bytes.{look}
use Rattle.judge.specs.Verdict.{is_accepted}
use Rattle.judge.specs.Kept.{kept_part, kept_verdict}
use Rattle.judge.specs.Ask.{pair_reasons, array_verdict}
use Rattle.simplify.specs.Answer.{modulus, answer}
use Rattle.question.specs.declared.Comparison.{Comparison}

-- 1 to 7; then 9 to 15 and 18; then 16; then 14 for a number that names an array row
unfoldable pub ask_verdict : List ℕ → List ℕ → ℕ → ℕ → Verdict
ask_verdict t kept x y = given (first (pair_reasons t kept x y)) 0 (check_rows t (kept_verdict t (kept_part t kept) (array_verdict t x y)))

-- the rows of a kept result, as they stand
unfoldable pub kept_rows : List ℕ → List ℕ → ℕ → Term
kept_rows t kept = look (kept_part t kept)

-- what is known of rows x and y, by their result rows; not known on refusal
unfoldable pub ask_relation : List ℕ → List ℕ → ℕ → ℕ → Relation
ask_relation t kept x y =
    cond (is_accepted (ask_verdict t kept x y)) (related (kept_rows t kept) (range_of (modulus t) (kept_rows t kept)) x y) Unknown

-- why that is known; undecided on refusal
unfoldable pub ask_reason : List ℕ → List ℕ → ℕ → ℕ → Reason
ask_reason t kept x y =
    cond (is_accepted (ask_verdict t kept x y)) (reason (kept_rows t kept) (range_of (modulus t) (kept_rows t kept)) x y) Undecided

-- a comparison that makes no run: removed, touched and compared are 0
unfoldable pub compared : ℕ → ℕ → Reason → Comparison
compared number row why = record { answer = answer number row 0 0 0; why = why }

-- the comparison by what is found: a reason, or a refusal
abbrev pub comparison_of : Result Reason Refusal → Comparison
comparison_of (Ok why) = compared 0 0 why
comparison_of (Err refusal) = compared (number_of refusal.fault) refusal.row Undecided

-- the promise is that this is answered. Both buffers are only read
unfoldable pub ask_answer : List ℕ → List ℕ → ℕ → ℕ → Comparison
ask_answer t kept x y = compared (ask_verdict t kept x y).number (ask_verdict t kept x y).row (ask_reason t kept x y)
