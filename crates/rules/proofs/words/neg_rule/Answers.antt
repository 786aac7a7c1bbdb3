use Rattle.walks.proofs.Reach.{row_room}
use Rattle.rules.proofs.words.neg_rule.Goals as goal

pub value_at-requires : goal.value_at-requires
value_at-requires c = search row_room
