use Rattle.walks.proofs.Reach.{row_room}
use Rattle.rules.proofs.WordRules.{sum_constant, sum_by_constant, sum_opened}
use Rattle.rules.proofs.words.sum_rule.Goals as goal

pub value_at-u-requires : goal.value_at-u-requires
value_at-u-requires c = search row_room

pub value_at-v-requires : goal.value_at-v-requires
value_at-v-requires c = search row_room

pub returns-then-u : goal.returns-then-u
returns-then-u c = search sum_constant

pub returns-then-v : goal.returns-then-v
returns-then-v c = search sum_by_constant

pub returns : goal.returns
returns c = search sum_opened
