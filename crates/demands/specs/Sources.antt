-- Bytes that are the same but for the sources of their rows: document 02, A9.
use Rattle.std.specs.Prelude.{ℕ, ◌+◌, ◌<◌, ◌≡◌, List, length, take}
use Rattle.in_bytes.specs.Numbers.{byte}
use Rattle.row.specs.Names.{HEADER, SOURCE, place}

-- tables, results
pub record AlikeButSources (s t : List ℕ) : Type 0 where
  pub long : length s ≡ length t
  pub header : take HEADER s ≡ take HEADER t
  pub fields : (x j : ℕ) → j < SOURCE → byte s (place x + j) ≡ byte t (place x + j)

-- the bytes of one row
pub record RowAlike (v w : List ℕ) : Type 0 where
  pub long : length v ≡ length w
  pub fields : (j : ℕ) → j < SOURCE → byte v j ≡ byte w j
