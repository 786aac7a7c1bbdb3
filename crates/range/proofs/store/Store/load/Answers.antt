use Rattle.std.proofs.Common.{ap, List}
use Rattle.range.specs.declared.Range.{Range}
use Rattle.range.specs.Range.{point, span}
use Rattle.range.specs.Store.{kept}
use Rattle.range.proofs.store.Store.load.Goals as goal

pub returns-clause-range : goal.returns-clause-range
unfolding kept point span
returns-clause-range c = ap (λ (s : List Range). kept s c.args.x) c.self.view_is
