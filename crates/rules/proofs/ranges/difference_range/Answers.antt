use Rattle.rules.proofs.RowRanges.{difference_moves}
use borrow.Author.Rules.{rules}
use Rattle.rules.proofs.RowRanges.{kept_known, negation_known}
use Rattle.rules.proofs.ranges.difference_range.Goals as goal

pub moved-requires : goal.moved-requires
moved-requires c = search difference_moves

pub sum-requires-clause-b_proper : goal.sum-requires-clause-b_proper
sum-requires-clause-b_proper c = search (rules, kept_known, negation_known)
