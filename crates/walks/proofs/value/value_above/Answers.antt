use Rattle.walks.proofs.Values.{value_beyond, value_own}
use Rattle.walks.proofs.value.value_above.Goals as goal

pub returns-then-x : goal.returns-then-x
returns-then-x c = search value_beyond

pub returns : goal.returns
returns c = search value_own
