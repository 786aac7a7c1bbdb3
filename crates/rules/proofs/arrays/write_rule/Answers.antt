use Rattle.walks.proofs.Reach.{row_room, row_reached}
use Rattle.rules.proofs.ArrayRules.{write_row_lem}
use Rattle.rules.proofs.arrays.write_rule.Goals as goal

pub index_at-j-requires : goal.index_at-j-requires
index_at-j-requires c = search row_reached

pub value_at-requires : goal.value_at-requires
value_at-requires c = search row_room

pub returns : goal.returns
returns c = search write_row_lem
