use Rattle.renew.proofs.Turning.{read_told}
use Rattle.renew.proofs.is_read.Goals as goal

pub returns : goal.returns
returns c = search read_told
