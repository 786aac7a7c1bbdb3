use native.Mathlib.Nat.{le_refl}
use Rattle.text.proofs.Puts.{wrote_then}
use Rattle.reasons.proofs.put_why.Goals as goal

pub returns : goal.returns
returns c = wrote_then (wrote_then c.put_word.ensures c.put_reason.ensures (le_refl 196)) c.put_byte.ensures (le_refl 197)
