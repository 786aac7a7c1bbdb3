use native.Mathlib.Nat.{le_refl}
use Rattle.text.specs.Text.{ascii, decimal}
use Rattle.reasons.proofs.Written.{wrote_onto, wrote_last}
use Rattle.listing.specs.List.{read_line}
use Rattle.listing.proofs.words.put_read.Goals as goal

pub returns : goal.returns
unfolding read_line
returns c =
    wrote_last (ascii ", index ") (decimal c.args.i) (ascii "\n")
    (wrote_onto (ascii ", array ") (decimal c.args.m) c.put_access.ensures c.put_labelled.ensures (le_refl 87)) c.put_last.ensures (le_refl 116)
