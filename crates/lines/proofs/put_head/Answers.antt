use native.Mathlib.Omega.{arith}
use Rattle.text.proofs.Puts.{put_capped}
use Rattle.lines.specs.Lines.{head}
use Rattle.lines.proofs.put_head.Goals as goal

pub returns : goal.returns
unfolding head
returns c = put_capped c.put_pair.ensures (omega arith)
