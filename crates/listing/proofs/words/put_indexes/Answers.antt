use native.Mathlib.Nat.{le_refl}
use Rattle.text.specs.Text.{ascii, decimal}
use Rattle.reasons.proofs.Written.{wrote_onto}
use Rattle.listing.proofs.words.put_indexes.Goals as goal

pub returns : goal.returns
returns c =
    wrote_onto (ascii " against ") (decimal c.args.i)
    (wrote_onto (ascii ", index ") (decimal c.args.index) c.put_access.ensures c.put_labelled.ensures (le_refl 88)) c.put_labelled-2.ensures (le_refl 117)
