use native.Mathlib.Nat.{le_refl}
use Rattle.text.specs.Text.{ascii, decimal}
use Rattle.reasons.proofs.Written.{wrote_onto}
use Rattle.compare.specs.Line.{rows_text}
use Rattle.compare.proofs.words.put_rows.Goals as goal

pub returns : goal.returns
unfolding rows_text
returns c = wrote_onto (ascii " and ") (decimal c.args.y) c.put_labelled.ensures c.put_labelled-2.ensures (le_refl 50)
