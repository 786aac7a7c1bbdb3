use native.Mathlib.Nat.{le_refl}
use Rattle.text.specs.Text.{ascii, decimal}
use Rattle.reasons.specs.Reasons.{offsets_text}
use Rattle.reasons.proofs.Written.{wrote_onto}
use Rattle.reasons.proofs.put_offsets.Goals as goal

pub returns : goal.returns
unfolding offsets_text
returns c = wrote_onto (ascii " and ") (decimal c.args.q) c.put_labelled.ensures c.put_labelled-2.ensures (le_refl 81)
