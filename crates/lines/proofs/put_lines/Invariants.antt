use Prim.Native.Nat.{◌*◌}
use Rattle.text.specs.Text.{Wrote}
use Rattle.lines.specs.Lines.{lines, LINE}
use Rattle.lines.proofs.put_lines.Given as goal

abbrev pub invariant-loop-i : goal.invariant-loop-i
invariant-loop-i l = Wrote l.initial.text (lines l.t l.from l.i) (LINE * l.i) l.text
