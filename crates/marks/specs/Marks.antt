-- Marks of rows: a bit for each row, 64 rows a word, the lowest bit first. Sixteen words have a bit for every row that a table can have.
use Rattle.std.specs.Prelude.{ℕ, zero, suc, ◌+◌, ◌/◌, ◌%◌, ◌^◌, ◌<◌, ◌≡◌, ◌≢◌, ◌||◌, Bool, cond, List, length, get_or, set, eqb}
use Rattle.std.specs.Int.Bits.{bit_or}
use Rattle.std.specs.Int.Count.{ones}

-- bit b of a word is 1
unfoldable pub is_one : ℕ → ℕ → Bool
is_one word b = eqb (word / 2 ^ b % 2) 1

-- row x is marked
unfoldable pub marked : List ℕ → ℕ → Bool
marked marks x = is_one (get_or marks (x / 64) 0) (x % 64)

-- the word that row x has its mark in has no ones
unfoldable pub none_beside : List ℕ → ℕ → Bool
none_beside marks x = eqb (get_or marks (x / 64) 0) 0

-- the marks with row x marked too, where a test passed
unfoldable pub with_mark : List ℕ → ℕ → Bool → List ℕ
with_mark marks x passed = set marks (x / 64) (bit_or (get_or marks (x / 64) 0) (cond passed (2 ^ (x % 64)) 0))

-- the sum of the ones of the first n words
unfoldable pub ones_of : List ℕ → ℕ → ℕ
ones_of marks zero = 0
ones_of marks (suc n) = ones_of marks n + ones (get_or marks n 0)

-- sixteen words of 64 bits
pub record Words (marks : List ℕ) : Type 0 where
  pub long : length marks ≡ 16
  pub fit : (i : ℕ) → get_or marks i 0 < 2 ^ 64

-- the marks with row x marked too where a test passed: every other row is marked as before
pub record Remarked (before : List ℕ) (x : ℕ) (passed : Bool) (after : List ℕ) : Type 0 where
  pub is : after ≡ with_mark before x passed
  pub here : marked after x ≡ (marked before x || passed)
  pub there : (y : ℕ) → y ≢ x → marked after y ≡ marked before y
