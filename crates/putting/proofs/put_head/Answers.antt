use Rattle.row.specs.Bytes.{head_of}
use native.Mathlib.Numerals.{towards_suc}
use Rattle.putting.proofs.put_head.Goals as goal

pub returns : goal.returns
unfolding head_of
returns c = simp towards_suc
