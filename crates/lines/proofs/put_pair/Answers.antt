use Prim.Native.Nat.{◌+◌}
use lib.ListN.{length}
use native.Mathlib.Nat.{le_refl}
use native.Mathlib.Omega.{arith}
use borrow.Author.Rules.{rules}
use Rattle.text.proofs.Puts.{wrote_then}
use Rattle.lines.specs.Lines.{pair}
use Rattle.lines.proofs.put_pair.Goals as goal

pub returns : goal.returns
unfolding pair
returns c =
    let done = wrote_then {k = length c.args.first.now + length c.args.second.now + 43} (wrote_then c.put_named.ensures c.put_named-2.ensures (le_refl _)) c.put_byte.ensures (omega arith) in
    search rules
