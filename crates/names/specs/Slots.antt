-- Slots that spare the search for a first row: names that agree modulo 256 share one.
use Rattle.std.specs.Prelude.{ℕ, suc, ◌+◌, ◌%◌, ◌≤◌, ◌<◌, ◌≡◌, List, length, get_or}
use Rattle.row.specs.Names.{LENGTH, place}
use Rattle.names.specs.First.{name_at, first_of}

-- the slots when the rows below n of the table t were asked for: a slot has 0 where none of them states a name of it, else one more than the number of a row
-- that is the first of its name
pub record Slots (t slots : List ℕ) (n : ℕ) : Type 0 where
  pub low : (s : ℕ) → get_or slots s 0 ≤ n
  pub first : (s y : ℕ) → get_or slots s 0 ≡ suc y → first_of (name_at t) y ≡ y
  pub none : (y : ℕ) → y < n → (name_at t y ≡ 0 → ⊥) → get_or slots (name_at t y % 256) 0 ≡ 0 → ⊥

-- row r is there and states the name, and `kept` is what the slot of the name has
pub record Slotted (t : List ℕ) (name r kept : ℕ) : Type 0 where
  pub here : place r + LENGTH ≤ length t
  pub named : name_at t r ≡ 0 → ⊥
  pub states : name ≡ name_at t r
  pub low : kept ≤ r
  pub first : (y : ℕ) → kept ≡ suc y → first_of (name_at t) y ≡ y
  pub none : kept ≡ 0 → (y : ℕ) → y < r → name_at t y ≡ name → ⊥

-- row r is there, its number fits a slot, and it is the next to be asked for
pub record CanFind (t slots : List ℕ) (r : ℕ) : Type 0 where
  pub here : place r + LENGTH ≤ length t
  pub few : r < 65535
  pub valid : Slots t slots r

pub record Found (t : List ℕ) (r first : ℕ) (slots : List ℕ) : Type 0 where
  pub is : first ≡ first_of (name_at t) r
  pub valid : Slots t slots (suc r)
