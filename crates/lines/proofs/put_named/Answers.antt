use native.Mathlib.Nat.{le_refl}
use Rattle.text.proofs.Puts.{wrote_then}
use Rattle.lines.specs.Lines.{named}
use Rattle.lines.proofs.put_named.Goals as goal

pub returns : goal.returns
unfolding named
returns c = wrote_then c.put_word.ensures c.put_spaced.ensures (le_refl _)
