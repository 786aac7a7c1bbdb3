use native.Mathlib.Omega.{arith}
use Rattle.text.specs.Text.{decimal}
use Rattle.reasons.proofs.Written.{wrote_onto}
use Rattle.listing.specs.List.{access_text}
use Rattle.listing.proofs.words.put_access.Goals as goal

pub returns : goal.returns
unfolding access_text
returns c = wrote_onto c.args.word.now (decimal c.args.r) c.put_labelled.ensures c.put_labelled-2.ensures (omega arith)
