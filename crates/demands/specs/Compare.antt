-- The comparison of document 01, which makes a fresh run and then tells what is known of two rows. No function answers it: it is what a question
-- about a kept result is held to (document 02, A6), at the limit that the kept result was made with (A8).
use Rattle.std.specs.Prelude.{ℕ, cond, List}
use Rattle.basis.specs.Reason.{first}
use Rattle.table.specs.Verdict.{Verdict}
use Rattle.table.specs.Refusals.{given, check_rows}
use Rattle.term.specs.declared.Relation.{Relation}
use Rattle.term.specs.declared.Relation.TheVariants.{Unknown}
use Rattle.term.specs.Relation.{related, range_of}
use Rattle.judge.specs.Verdict.{is_accepted}
use Rattle.judge.specs.Ask.{pair_reasons, array_verdict}
use Rattle.simplify.specs.Answer.{modulus}
use Rattle.simplify.specs.Run.{fresh_rows}

-- 1 to 7; then 9 to 15 and 18; then 14 for a number that names an array row
unfoldable pub compare_verdict : List ℕ → List ℕ → ℕ → ℕ → Verdict
compare_verdict t buffer x y = given (first (pair_reasons t buffer x y)) 0 (check_rows t (array_verdict t x y))

-- what is known of two rows of a table's fresh result
unfoldable pub fresh_relation : ℕ → List ℕ → ℕ → ℕ → Relation
fresh_relation limit t x y = related (fresh_rows limit t) (range_of (modulus t) (fresh_rows limit t)) x y

-- not known on refusal
unfoldable pub compare_relation : ℕ → List ℕ → List ℕ → ℕ → ℕ → Relation
compare_relation limit t buffer x y = cond (is_accepted (compare_verdict t buffer x y)) (fresh_relation limit t x y) Unknown
