use native.Mathlib.Omega.{arith}
use Rattle.text.proofs.Puts.{wrote_capped}
use Rattle.listing.specs.List.{found_line}
use Rattle.listing.proofs.words.put_found.Goals as goal

pub returns : goal.returns
unfolding found_line
returns c = wrote_capped c.put_last.ensures (omega arith)
