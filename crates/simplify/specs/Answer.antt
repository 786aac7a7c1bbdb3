-- What every public function answers: document 01, "What is answered"; document 02, A8.
use Rattle.std.specs.Prelude.{ℕ, ◌^◌, cond, List}
use Rattle.table.specs.Verdict.{Verdict}
use Rattle.table.specs.Refusals.{width}
use Rattle.judge.specs.Verdict.{is_accepted}
use Rattle.simplify.specs.declared.Answer.{Answer}

-- the modulus of a table's words
unfoldable pub modulus : List ℕ → ℕ
modulus t = 2 ^ width t

unfoldable pub answer : ℕ → ℕ → ℕ → ℕ → ℕ → Answer
answer refusal row removed touched compared = record { refusal = refusal; row = row; removed = removed; touched = touched; compared = compared }

-- a number that is 0 on refusal
unfoldable pub if_accepted : Verdict → ℕ → ℕ
if_accepted v number = cond (is_accepted v) number 0

unfoldable pub answered : Verdict → ℕ → ℕ → ℕ → Answer
answered v removed touched compared = answer v.number v.row (if_accepted v removed) (if_accepted v touched) (if_accepted v compared)
