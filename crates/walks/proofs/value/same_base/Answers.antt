use Rattle.walks.proofs.Bases.{agree_kinds, agree_left, agree_right}
use Rattle.walks.proofs.value.same_base.Goals as goal

pub returns-then-u-v : goal.returns-then-u-v
returns-then-u-v c = search agree_kinds

pub returns-then-u-v-2 : goal.returns-then-u-v-2
returns-then-u-v-2 c = search agree_left

pub returns : goal.returns
returns c = search agree_right
