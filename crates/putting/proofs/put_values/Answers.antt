use Rattle.putting.proofs.Steps.{values_put}
use Rattle.putting.proofs.put_values.Goals as goal

pub returns : goal.returns
returns c =
    values_put _ _ _ _ _ c.put.ensures
    c.put-2.ensures c.put-3.ensures
