use native.Mathlib.Nat.{le_refl}
use Rattle.text.proofs.Puts.{wrote_then}
use Rattle.reasons.proofs.put_ranged.Goals as goal

pub returns : goal.returns
returns c = wrote_then c.put_word.ensures c.put_range.ensures (le_refl _)
