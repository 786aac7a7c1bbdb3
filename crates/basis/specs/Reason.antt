-- A list of numbered reasons, in the order in which they are given: the number is that of the first reason that holds.
use Rattle.std.specs.Prelude.{ℕ, Bool, cond, List, [], ◌∷◌}

pub data Reason : Type 0 where
  ◌when◌ : ℕ → Bool → Reason

infix 70 ◌when◌
-- the number of the first reason that holds, 0 where none does
unfoldable pub first : List Reason → ℕ
first [] = 0
first ((number when holds) ∷ later) = cond holds number (first later)
