use Rattle.std.proofs.Common.{ap, List}
use Rattle.range.specs.declared.Range.{Range}
use Rattle.range.specs.Store.{keep}
use Rattle.range.proofs.store.Store.save.Goals as goal

pub returns-clause-range : goal.returns-clause-range
unfolding keep
returns-clause-range c = ap (λ (s : List Range). keep s c.args.r c.args.a) c.self.view_is
