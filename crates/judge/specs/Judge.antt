-- What the functions that judge ask of their callers.
use Rattle.std.specs.Prelude.{ℕ, ◌+◌, ◌≤◌, ◌<◌, ◌≡◌, List, length}
use Rattle.row.specs.Names.{LENGTH, place}
use Rattle.basis.specs.Reason.{first}
use Rattle.table.specs.Refusals.{rows, head_reasons}

-- row x is there
abbrev pub Placed : List ℕ → ℕ → Type 0
Placed t x = place x + LENGTH ≤ length t

-- row x is there in both
pub record Both (t result : List ℕ) (x : ℕ) : Type 0 where
  pub here : Placed t x
  pub there : Placed result x

-- a table of the stated length, and bytes that are as long
pub record Beside (t part : List ℕ) : Type 0 where
  pub size : length t ≡ place (rows t)
  pub same : length part ≡ length t

-- a table of the stated length, and bytes that are at least as long
pub record Holding (t kept : List ℕ) : Type 0 where
  pub size : length t ≡ place (rows t)
  pub room : length t ≤ length kept

-- a table whose head passes, and a kept result that is at least as long
pub record KeptThere (t kept : List ℕ) : Type 0 where
  pub head : first (head_reasons t) ≡ 0
  pub room : length t ≤ length kept

-- the same, and two rows of the table
pub record PairThere (t kept : List ℕ) (x y : ℕ) : Type 0 where
  pub there : KeptThere t kept
  pub first_row : x < rows t
  pub second_row : y < rows t
