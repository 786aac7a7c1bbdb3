use Rattle.walks.proofs.Bases.{opened_one, opened_self}
use Rattle.walks.proofs.value.opened.Goals as goal

pub returns-then-v : goal.returns-then-v
returns-then-v c = search opened_one

pub returns : goal.returns
returns c = search opened_self
