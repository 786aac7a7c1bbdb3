use Rattle.walks.proofs.Reach.{row_reached}
use Rattle.rules.proofs.ArrayRules.{found_below, read_found, read_stopped}
use Rattle.rules.proofs.arrays.read_rule.Goals as goal

pub index_at-j-requires : goal.index_at-j-requires
index_at-j-requires c = search row_reached

pub shift_rule-requires : goal.shift_rule-requires
shift_rule-requires c = search found_below

pub returns-in-Found : goal.returns-in-Found
returns-in-Found c = search read_found

pub returns-in-Stopped : goal.returns-in-Stopped
returns-in-Stopped c = search read_stopped
