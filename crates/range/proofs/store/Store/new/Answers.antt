use Rattle.range.specs.Range.{point, span}
use Rattle.range.proofs.store.Store.new.Goals as goal

pub returns : goal.returns
unfolding point span
returns c = search
