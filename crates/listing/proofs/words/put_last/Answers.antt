use native.Mathlib.Omega.{arith}
use Rattle.text.proofs.Puts.{wrote_then}
use Rattle.listing.proofs.words.put_last.Goals as goal

pub returns : goal.returns
returns c = wrote_then c.put_labelled.ensures c.put_byte.ensures (omega arith)
