use Rattle.in_bytes.proofs.Numbers.{up_goes_on, more_behind}
use Rattle.in_bytes.proofs.put.Goals as goal

pub loop-k-preserved : goal.loop-k-preserved
loop-k-preserved g c = record { written = search up_goes_on; left = search more_behind }
