use Rattle.argument.proofs.Numbers.{Onward}
use Rattle.argument.proofs.number.Given as goal

abbrev pub invariant-loop-c : goal.invariant-loop-c
invariant-loop-c l = Onward l.word l.c-index l.value
