-- What the functions ask of their callers.
use Rattle.std.specs.Prelude.{ℕ, ◌≤◌, ◌<◌, ◌≡◌, true, List, length}
use Rattle.basis.specs.Reason.{first}
use Rattle.table.specs.Refusals.{rows, head_reasons, check_table, accepted}
use Rattle.term.specs.Term.{is_read}
use Rattle.term.specs.Bytes.{look}

-- of an explanation: an accepted table, room for its result, and a READ row
pub record Explainable (t buffer : List ℕ) (x : ℕ) : Type 0 where
  pub table : check_table t ≡ accepted
  pub room : length t ≤ length buffer
  pub row : x < rows t
  pub reads : is_read (look t x) ≡ true

-- a table whose head passes, and one of its rows
pub record There (t : List ℕ) (x : ℕ) : Type 0 where
  pub head : first (head_reasons t) ≡ 0
  pub row : x < rows t
