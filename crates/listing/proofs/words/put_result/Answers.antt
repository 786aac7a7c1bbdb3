use native.Mathlib.Nat.{le_refl}
use Rattle.text.proofs.Puts.{wrote_then}
use Rattle.listing.specs.List.{result_line}
use Rattle.listing.proofs.words.put_result.Goals as goal

pub returns : goal.returns
unfolding result_line
returns c = wrote_then c.put_word.ensures c.put_line.ensures (le_refl 175)
