use Rattle.walks.proofs.Reach.{row_room}
use Rattle.rules.proofs.WordRules.{diff_same, diff_by_constant, diff_from_constant, diff_opened}
use Rattle.rules.proofs.words.diff_rule.Goals as goal

pub value_at-u-requires : goal.value_at-u-requires
value_at-u-requires c = search row_room

pub value_at-v-requires : goal.value_at-v-requires
value_at-v-requires c = search row_room

pub returns-then-same_base : goal.returns-then-same_base
returns-then-same_base c = search diff_same

pub returns-then-v : goal.returns-then-v
returns-then-v c = search diff_by_constant

pub returns-then-u : goal.returns-then-u
returns-then-u c = search diff_from_constant

pub returns : goal.returns
returns c = search diff_opened
