-- The limit that the program's arguments give: document 02, A8.
use Rattle.std.specs.Prelude.{ℕ, Option, Some, None, cond, ◌&&◌, List, eqb, leb}
use Rattle.text.specs.Text.{ascii}
use Rattle.argument.specs.Argument.{same_word, number_of}
use Rattle.judge.specs.Run.{LIMIT}

-- a number, unless it is above the greatest limit
unfoldable pub within : Option ℕ → Option ℕ
within (Some limit) = cond (leb limit LIMIT) (Some limit) None
within None = None

-- of `count` arguments, the program's name among them, `word` the first after it and `value` the second: the greatest limit where there is none,
-- the number of `--limit L`, and nothing of any others
unfoldable pub limit_from : ℕ → List ℕ → List ℕ → Option ℕ
limit_from count word value =
    cond (eqb count 1) (Some LIMIT) (cond (eqb count 3 && same_word word (ascii "--limit")) (within (number_of value)) None)
