use Rattle.rules.proofs.Reach.{negative_below}
use Rattle.rules.proofs.WordRules.{neg_constant, neg_one, neg_negative, neg_difference, neg_sum}
use Rattle.rules.proofs.words.negated.Goals as goal

pub returns-then-v : goal.returns-then-v
returns-then-v c = search neg_constant

pub returns-then-v-2 : goal.returns-then-v-2
returns-then-v-2 c = search neg_one

pub shift_rule-requires : goal.shift_rule-requires
shift_rule-requires c = search negative_below

pub returns-then-v-3 : goal.returns-then-v-3
returns-then-v-3 c = search neg_negative

pub returns-then-v-4 : goal.returns-then-v-4
returns-then-v-4 c = search neg_difference

pub returns : goal.returns
returns c = search neg_sum
