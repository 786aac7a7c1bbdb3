-- Results and refusals as lines: document 01, "Tables to try", and document 02, A9.
use Rattle.std.specs.Prelude.{ℕ, zero, suc, ◌+◌, ◌≤◌, List, [], ◌∷◌, ◌++◌, length}
use Rattle.row.specs.Names.{place}
use Rattle.row.specs.Bytes.{row_at, source_at}
use Rattle.row.specs.declared.Row.{Row}
use Rattle.text.specs.Text.{ascii, decimal, spaced}

-- a word and its number
unfoldable pub named : List ℕ → ℕ → List ℕ
named word v = word ++ spaced (v ∷ [])

-- two words with their numbers, as a line
unfoldable pub pair : List ℕ → ℕ → List ℕ → ℕ → List ℕ
pair first v second w = named first v ++ named second w ++ ascii "\n"

-- the first line of a result
unfoldable pub head : ℕ → ℕ → List ℕ
head width rows = pair (ascii "width") width (ascii " rows") rows

-- all that is printed on a refusal
unfoldable pub refusal : ℕ → ℕ → List ℕ
refusal number row = pair (ascii "refused") number (ascii " row") row

-- the line of row r, which is x and was recorded at instruction `source`
unfoldable pub line : ℕ → Row → ℕ → List ℕ
line r x source = decimal r ++ spaced (x.kind ∷ x.a ∷ x.b ∷ x.c ∷ x.k ∷ x.h ∷ source ∷ []) ++ ascii "\n"

-- the lines of `count` rows of a table, from row `from` on
unfoldable pub lines : List ℕ → ℕ → ℕ → List ℕ
lines t from zero = []
lines t from (suc count) = lines t from count ++ line (from + count) (row_at t (from + count)) (source_at t (from + count))

-- the bytes that the first line of a result, a refusal, and the line of a row take at most
abbrev pub SHORT : ℕ
SHORT = 64

abbrev pub LINE : ℕ
LINE = 168

-- rows that stand in t, few enough for one call of the system
pub record Chunk (t : List ℕ) (from count : ℕ) : Type 0 where
  pub room : place (from + count) ≤ length t
  pub few : count ≤ 32
