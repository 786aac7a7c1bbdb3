use Rattle.range.proofs.Made.{negation_round, negation_ends}
use Rattle.word.proofs.Mask.{masked_difference}
use Rattle.range.proofs.Range.negation.Goals as goal

pub returns-then-size-top : goal.returns-then-size-top
returns-then-size-top c = search negation_round

pub returns : goal.returns
returns c = search (negation_ends, masked_difference)
