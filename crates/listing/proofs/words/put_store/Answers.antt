use Prim.Native.Nat.{◌+◌}
use native.Mathlib.Nat.{le_refl}
use Rattle.text.specs.Text.{ascii}
use Rattle.text.proofs.Puts.{wrote_within}
use Rattle.reasons.specs.Reasons.{reason_text}
use Rattle.reasons.proofs.Written.{wrote_last}
use Rattle.listing.specs.List.{store_line}
use Rattle.listing.proofs.Short.{store_short}
use Rattle.listing.proofs.words.put_store.Goals as goal

-- its parts may be longer each than they are together: the whole is held to its length
pub returns : goal.returns
unfolding store_line
returns c =
    wrote_within
    (wrote_last (ascii ", ") (reason_text (c.args.top + 1) c.args.s.why) (ascii "\n") c.put_indexes.ensures c.put_why.ensures (le_refl 314))
    (store_short (c.args.top + 1) c.args.source c.args.i c.args.s c.requires.numbered)
