use Rattle.range.proofs.Made.{size_small, sum_round, sum_ends}
use Rattle.word.proofs.Mask.{masked_sum}
use Rattle.range.proofs.Range.sum.Goals as goal

pub overflow_sub-top : goal.overflow_sub-top
overflow_sub-top c = search size_small

pub returns-then-x-top : goal.returns-then-x-top
returns-then-x-top c = search sum_round

pub returns : goal.returns
returns c = search (sum_ends, masked_sum)
