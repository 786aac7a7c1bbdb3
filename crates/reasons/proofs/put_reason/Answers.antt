use native.Mathlib.Omega.{arith}
use Rattle.text.proofs.Puts.{wrote_capped}
use Rattle.reasons.specs.Reasons.{reason_text}
use Rattle.reasons.proofs.put_reason.Goals as goal

pub returns-in-SamePlace : goal.returns-in-SamePlace
unfolding reason_text
returns-in-SamePlace c = rw c.in-SamePlace.is (wrote_capped c.put_word.ensures (omega arith))

pub returns-in-Offsets : goal.returns-in-Offsets
unfolding reason_text
returns-in-Offsets c = rw c.in-Offsets.is (wrote_capped c.put_offsets.ensures (omega arith))

pub returns-in-Undecided : goal.returns-in-Undecided
unfolding reason_text
returns-in-Undecided c = rw c.in-Undecided.is (wrote_capped c.put_word-in-Undecided.ensures (omega arith))
