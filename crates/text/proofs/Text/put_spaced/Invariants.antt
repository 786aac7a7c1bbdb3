use Prim.Native.Nat.{◌*◌}
use lib.ListN.{take}
use Rattle.text.specs.Text.{spaced, Wrote}
use Rattle.text.proofs.Text.put_spaced.Given as goal

abbrev pub invariant-loop-v : goal.invariant-loop-v
invariant-loop-v l = Wrote l.initial.self (spaced (take l.v-index l.numbers)) (21 * l.v-index) l.self
