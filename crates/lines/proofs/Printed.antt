-- The lines of a table, put together from the texts that the calls wrote.
use Prim.Native.Nat.{ℕ, ◌+◌, ◌*◌, ◌^◌}
use native.Mathlib.Numerals.{add-one}
use native.Mathlib.Omega.{arith}
use mathlib.Core.Path.{subst₂}
use mathlib.Core.List.{List}
use Rattle.row.specs.declared.Row.{Row}
use Rattle.in_bytes.specs.Numbers.{Read}
use Rattle.row.specs.Bytes.{source_at, Decoded}
use Rattle.text.specs.declared.Text.{Text}
use Rattle.text.specs.Text.{Wrote}
use Rattle.text.proofs.Puts.{wrote_then}
use Rattle.lines.specs.Lines.{line, lines, LINE}

-- the first i lines, and one more
pub lines_more : {a b c : Text} {t : List ℕ} {x : Row} {source : ℕ} (from i : ℕ)
    → Wrote a (lines t from i) (LINE * i) b → Decoded t (from + i) x → Read (source_at t (from + i)) (2 ^ 32) source → Wrote b (line (from + i) x source) LINE c
    → Wrote a (lines t from (i + 1)) (LINE * (i + 1)) c
unfolding lines
lines_more {b = b} {c} from i done decoded recorded new =
    rw add-one (wrote_then done (subst₂ (λ (y : Row) (s : ℕ). Wrote b (line (from + i) y s) LINE c) decoded.is recorded.is new) (omega arith))
