use Prim.Native.Nat.{◌+◌}
use native.Mathlib.Nat.{le_refl}
use Rattle.text.specs.Text.{ascii}
use Rattle.reasons.specs.Reasons.{range_text, reason_text}
use Rattle.reasons.proofs.Written.{wrote_onto}
use Rattle.reasons.proofs.put_spans.Goals as goal

pub returns : goal.returns
unfolding reason_text
returns c = wrote_onto (ascii " and ") (range_text (c.args.top + 1) c.args.spans.read) c.put_ranged.ensures c.put_ranged-2.ensures (le_refl 194)
