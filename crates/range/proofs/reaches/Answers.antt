use Rattle.range.proofs.Made.{reaches}
use Rattle.range.proofs.reaches.Goals as goal

pub returns : goal.returns
returns c = search reaches
