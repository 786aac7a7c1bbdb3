-- A row and its bytes: document 01, "Bytes of a table". Behind the numbers of the row stands its source, the instruction that it was recorded at: document 02, A9.
use Rattle.std.specs.Prelude.{ℕ, ◌+◌, ◌^◌, ◌<◌, ◌≡◌, Bool, not, ◌||◌, List, [], ◌∷◌, ◌++◌, eqb}
use Rattle.std.proofs.lemmas.List.Edits.{sets}
use Rattle.in_bytes.specs.Numbers.{byte, number, bytes}
use Rattle.row.specs.declared.Row.{Row}
use Rattle.row.specs.Names.{MARK_0, MARK_1, KIND, ZERO, A, B, C, K, H, SOURCE, place}

-- the row of these numbers
abbrev pub row : ℕ → ℕ → ℕ → ℕ → ℕ → ℕ → Row
row kind a b c k h = record { kind = kind; a = a; b = b; c = c; k = k; h = h }

-- the row whose bytes begin at `at`
unfoldable pub row_from : List ℕ → ℕ → Row
row_from t at = record {
  kind = byte t (at + KIND);
  a = number 2 t (at + A);
  b = number 2 t (at + B);
  c = number 2 t (at + C);
  k = number 8 t (at + K);
  h = number 8 t (at + H);
}

-- row r of a table
unfoldable pub row_at : List ℕ → ℕ → Row
row_at t r = row_from t (place r)

-- the instruction that row r of a table was recorded at
unfoldable pub source_at : List ℕ → ℕ → ℕ
source_at t r = number 4 t (place r + SOURCE)

-- the mark or the zero byte of the row that begins at `at` is wrong
unfoldable pub mark_wrong : List ℕ → ℕ → Bool
mark_wrong t at = not (eqb (byte t at) MARK_0) || not (eqb (byte t (at + 1)) MARK_1) || not (eqb (byte t (at + ZERO)) 0)

-- the bytes of a row: mark, kind and zero byte, then the numbers, last the source
unfoldable pub head_of : ℕ → List ℕ
head_of kind = MARK_0 ∷ MARK_1 ∷ kind ∷ 0 ∷ []

unfoldable pub bytes_of : Row → ℕ → List ℕ
bytes_of x source =
    head_of x.kind ++
    bytes 2 x.a ++ bytes 2 x.b ++ bytes 2 x.c ++ bytes 8 x.k ++ bytes 8 x.h ++ bytes 4 source

-- t with x, recorded at `source`, as its row r
unfoldable pub put_row : List ℕ → ℕ → Row → ℕ → List ℕ
put_row t r x source = sets t (place r) (bytes_of x source)

-- the numbers of a row fit their fields
pub record Small (x : Row) : Type 0 where
  pub kind : x.kind < 256
  pub a : x.a < 65536
  pub b : x.b < 65536
  pub c : x.c < 65536
  pub k : x.k < 2 ^ 64
  pub h : x.h < 2 ^ 64

-- what decode tells of x, row r of t
pub record Decoded (t : List ℕ) (r : ℕ) (x : Row) : Type 0 where
  pub is : x ≡ row_at t r
  pub small : Small x
