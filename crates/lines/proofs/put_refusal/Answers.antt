use native.Mathlib.Omega.{arith}
use Rattle.text.proofs.Puts.{put_capped}
use Rattle.lines.specs.Lines.{refusal}
use Rattle.lines.proofs.put_refusal.Goals as goal

pub returns : goal.returns
unfolding refusal
returns c = put_capped c.put_pair.ensures (omega arith)
