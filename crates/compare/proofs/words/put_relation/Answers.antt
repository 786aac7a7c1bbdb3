use native.Mathlib.Omega.{arith}
use Rattle.text.proofs.Puts.{wrote_capped}
use Rattle.compare.specs.Line.{relation_text}
use Rattle.compare.proofs.words.put_relation.Goals as goal

pub returns-in-Unknown : goal.returns-in-Unknown
unfolding relation_text
returns-in-Unknown c = rw c.in-Unknown.is c.put_word.ensures

pub returns-in-Same : goal.returns-in-Same
unfolding relation_text
returns-in-Same c = rw c.in-Same.is (wrote_capped c.put_word-in-Same.ensures (omega arith))

pub returns-in-Apart : goal.returns-in-Apart
unfolding relation_text
returns-in-Apart c = rw c.in-Apart.is (wrote_capped c.put_word-in-Apart.ensures (omega arith))
