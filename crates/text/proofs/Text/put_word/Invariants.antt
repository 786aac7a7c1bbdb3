use lib.ListN.{take}
use Rattle.text.specs.Text.{Wrote}
use Rattle.text.proofs.Text.put_word.Given as goal

abbrev pub invariant-loop-b : goal.invariant-loop-b
invariant-loop-b l = Wrote l.initial.text (take l.b-index l.word) l.b-index l.text
