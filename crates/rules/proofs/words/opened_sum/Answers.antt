use Rattle.rules.proofs.WordRules.{sum_ordered, sum_turned}
use Rattle.rules.proofs.words.opened_sum.Goals as goal

pub returns-then-x-y : goal.returns-then-x-y
returns-then-x-y c = search sum_ordered

pub returns : goal.returns
returns c = search sum_turned
