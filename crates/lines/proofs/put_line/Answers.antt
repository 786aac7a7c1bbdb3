use native.Mathlib.Nat.{le_refl}
use Rattle.text.proofs.Puts.{wrote_then}
use Rattle.lines.specs.Lines.{line}
use Rattle.lines.proofs.put_line.Goals as goal

pub returns : goal.returns
unfolding line
returns c = wrote_then (wrote_then c.put_decimal.ensures c.put_spaced.ensures (le_refl 167)) c.put_byte.ensures (le_refl 168)
