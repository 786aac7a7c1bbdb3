-- What the demands speak of: the rows that a result slice holds, and a kept result that is the table's own.
use Rattle.std.specs.Prelude.{ℕ, ◌≡◌, true, List, length, take}
use Rattle.term.specs.Term.{Term}
use Rattle.term.specs.Bytes.{look}
use Rattle.judge.specs.Verdict.{is_accepted}
use Rattle.judge.specs.Run.{run_verdict}
use Rattle.simplify.specs.Run.{run_result}
use Rattle.simplify.specs.Edit.{edit_verdict, edit_table, edit_kept}

-- the rows of a result: those in as many of its first bytes as the table has
unfoldable pub rows_in : List ℕ → List ℕ → ℕ → Term
rows_in t buffer = look (take (length t) buffer)

-- a kept result is the table's own, made with a limit, where a fresh run of the table with that limit into it is accepted and changes no byte of it
pub record Own (limit : ℕ) (t kept : List ℕ) : Type 0 where
  pub accepted : is_accepted (run_verdict t kept limit) ≡ true
  pub settled : run_result t kept limit ≡ kept

-- edits in a row, each accepted and all with one limit: from a table and a kept result to what they are in the end
pub data Edits (limit : ℕ) : List ℕ → List ℕ → List ℕ → List ℕ → Type 0 where
  none : {t kept : List ℕ} → Edits limit t kept t kept
  one : {t kept t' kept' : List ℕ} (r : ℕ) (replacement : List ℕ) → is_accepted (edit_verdict t kept r replacement limit) ≡ true →
      Edits limit (edit_table t kept r replacement limit) (edit_kept t kept r replacement limit) t' kept' → Edits limit t kept t' kept'
