use Rattle.needed.proofs.Marking.{two_needs}
use Rattle.needed.proofs.Keeping.{two_kept}
use Rattle.needed.proofs.ranges.keep_two.Goals as goal

pub mark_needed-requires : goal.mark_needed-requires
mark_needed-requires c = search two_needs

pub returns : goal.returns
returns c = search two_kept
