use Rattle.walks.proofs.Values.{value_decoded}
use Rattle.walks.proofs.value.value_at.Goals as goal

pub returns : goal.returns
returns c = search value_decoded
