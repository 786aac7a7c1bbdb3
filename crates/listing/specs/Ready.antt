-- What the functions ask of their callers.
use Rattle.std.specs.Prelude.{ℕ, ◌^◌, ◌<◌}
use Rattle.table.specs.Refusals.{MOST}
use Rattle.term.specs.declared.Met.{Met}

-- of the numbers in the line of a store: an instruction number of 4 bytes, and row numbers of a table. Longer ones would make the line longer than 256 bytes
pub record Numbered (source i : ℕ) (s : Met) : Type 0 where
  pub instruction : source < 2 ^ 32
  pub store : s.store < MOST
  pub index : s.index < MOST
  pub sought : i < MOST
