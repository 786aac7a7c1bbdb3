use Rattle.in_bytes.proofs.Numbers.{read_goes_on}
use Rattle.in_bytes.proofs.number.Goals as goal

pub loop-k-preserved : goal.loop-k-preserved
loop-k-preserved g c = search read_goes_on
