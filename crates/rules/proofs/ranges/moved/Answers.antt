use borrow.Author.Rules.{rules}
use Rattle.rules.proofs.RowRanges.{point_known}
use Rattle.rules.proofs.ranges.moved.Goals as goal

pub sum-requires-clause-b_proper : goal.sum-requires-clause-b_proper
sum-requires-clause-b_proper c = search (rules, point_known)
