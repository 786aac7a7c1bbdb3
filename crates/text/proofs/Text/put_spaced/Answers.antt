use Rattle.text.specs.Text.{spaced}
use Rattle.text.proofs.Puts.{wrote_none, spaced_more}
use Rattle.text.proofs.Text.put_spaced.Goals as goal

pub loop-v-init : goal.loop-v-init
unfolding spaced
loop-v-init c = search wrote_none

pub loop-v-preserved : goal.loop-v-preserved
loop-v-preserved c = search spaced_more
