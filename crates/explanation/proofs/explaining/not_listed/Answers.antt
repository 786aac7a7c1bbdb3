use Rattle.explanation.proofs.Refused.{listing_is}
use Rattle.explanation.proofs.explaining.not_listed.Goals as goal

pub returns : goal.returns
returns c = listing_is _ _ _ c.into.ensures
