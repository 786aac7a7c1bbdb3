-- Rows as terms, and the bytes that they stand in.
use Rattle.std.specs.Prelude.{ℕ, zero, suc, Bool, cond, List}
use Rattle.std.proofs.lemmas.List.Edits.{sets}
use Rattle.row.specs.declared.Row.{Row}
use Rattle.row.specs.Names.{place}
use Rattle.row.specs.Bytes.{row_at, put_row}
use Rattle.term.specs.Term.{Term, term_of, row_of}

-- the rows of a table; past its end they are CONST 0
unfoldable pub look : List ℕ → ℕ → Term
look t x = term_of (row_at t x)

-- the table with the replacement in place of row r
unfoldable pub edited : List ℕ → ℕ → List ℕ → List ℕ
edited t r replacement = sets t (place r) replacement

-- the buffer with x, recorded at `source`, as its row r, where it is touched
unfoldable pub put_if : Bool → ℕ → Row → ℕ → List ℕ → List ℕ
put_if touched r x source buffer = cond touched (put_row buffer r x source) buffer

-- the buffer with each touched one of the first n rows of f in its place, with its source; all else stays
unfoldable pub put_rows : (ℕ → Bool) → (ℕ → Term) → (ℕ → ℕ) → ℕ → List ℕ → List ℕ
put_rows touched f source zero buffer = buffer
put_rows touched f source (suc n) buffer = put_if (touched n) n (row_of (f n)) (source n) (put_rows touched f source n buffer)
