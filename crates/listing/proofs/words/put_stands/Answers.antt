use native.Mathlib.Omega.{arith}
use Rattle.text.proofs.Puts.{wrote_capped}
use Rattle.listing.specs.List.{stands_line}
use Rattle.listing.proofs.words.put_stands.Goals as goal

pub returns : goal.returns
unfolding stands_line
returns c = wrote_capped c.put_last.ensures (omega arith)
