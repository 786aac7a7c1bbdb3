use borrow.Author.Rules.{rules}
use Rattle.rules.proofs.RowRanges.{kept_known, sum_known}
use Rattle.rules.proofs.ranges.sum_range.Goals as goal

pub moved-requires : goal.moved-requires
moved-requires c = search (rules, kept_known, sum_known)
