-- What a question about two rows is refused for beside 9 to 15, 18 and 16: 1 to 7, and 14 at the end for a number that names an array row (document 01,
-- "Comparison"; document 02, A6).
use Rattle.std.specs.Prelude.{ℕ, ◌||◌, List, [], ◌∷◌, ◌++◌, leb}
use Rattle.basis.specs.Reason.{Reason, ◌when◌, first}
use Rattle.table.specs.Verdict.{Verdict}
use Rattle.table.specs.Refusals.{rows, given, accepted}
use Rattle.term.specs.Term.{is_array}
use Rattle.term.specs.Bytes.{look}
use Rattle.judge.specs.Run.{room_reasons}

-- 1 to 7
unfoldable pub pair_reasons : List ℕ → List ℕ → ℕ → ℕ → List Reason
pair_reasons t kept x y = room_reasons t kept ++ 7 when (leb (rows t) x || leb (rows t) y) ∷ []

-- 14 for a number that names an array row
unfoldable pub array_reasons : List ℕ → ℕ → List Reason
array_reasons t x = 14 when is_array (look t x) ∷ []

-- the first number first
unfoldable pub array_verdict : List ℕ → ℕ → ℕ → Verdict
array_verdict t x y = given (first (array_reasons t x)) x (given (first (array_reasons t y)) y accepted)
