use native.Mathlib.Nat.{le_refl}
use Rattle.text.specs.Text.{ascii, decimal}
use Rattle.reasons.specs.Reasons.{piece_text}
use Rattle.reasons.proofs.Written.{wrote_onto}
use Rattle.reasons.proofs.put_piece.Goals as goal

pub returns : goal.returns
unfolding piece_text
returns c = wrote_onto (ascii "..") (decimal c.args.hi) c.put_decimal.ensures c.put_labelled.ensures (le_refl 42)
