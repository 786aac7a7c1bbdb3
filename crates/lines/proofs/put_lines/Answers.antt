use native.Mathlib.Omega.{arith}
use Rattle.row.specs.Names.{place}
use Rattle.text.proofs.Puts.{wrote_none}
use Rattle.lines.specs.Lines.{lines}
use Rattle.lines.proofs.Printed.{lines_more}
use Rattle.lines.proofs.put_lines.Goals as goal

pub loop-i-init : goal.loop-i-init
unfolding lines
loop-i-init c = search wrote_none

pub overflow_add-r : goal.overflow_add-r
unfolding place
overflow_add-r c = omega arith

pub decode-requires : goal.decode-requires
unfolding place
decode-requires c = omega arith

pub source_at-requires : goal.source_at-requires
unfolding place
source_at-requires c = omega arith

pub loop-i-preserved : goal.loop-i-preserved
loop-i-preserved c = search lines_more
