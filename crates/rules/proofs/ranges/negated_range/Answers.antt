use borrow.Author.Rules.{rules}
use Rattle.rules.proofs.RowRanges.{point_known, kept_known, negation_known}
use Rattle.rules.proofs.ranges.negated_range.Goals as goal

pub sum-requires-clause-a_proper : goal.sum-requires-clause-a_proper
sum-requires-clause-a_proper c = search (rules, point_known, kept_known, negation_known)

pub sum-requires-clause-b_proper : goal.sum-requires-clause-b_proper
sum-requires-clause-b_proper c = search (rules, point_known, kept_known, negation_known)
