-- What `copy` asks.
use Rattle.std.specs.Prelude.{ℕ, ◌+◌, ◌≤◌, List, length}

-- both slices hold the bytes that are copied
pub record Rooms (from : List ℕ) (start count : ℕ) (to : List ℕ) (place : ℕ) : Type 0 where
  pub source : start + count ≤ length from
  pub target : place + count ≤ length to
