use Rattle.rules.proofs.RowRanges.{asks_shift, asks_sum, asks_diff, asks_neg, entry_const, entry_var, entry_shift, entry_sum, entry_diff, entry_neg, entry_read, entry_fresh, entry_write, entry_none}
use Rattle.rules.proofs.ranges.entry_of.Goals as goal
use Rattle.row.proofs.States.{states_const, states_var, states_shift, states_sum, states_diff, states_neg, states_read, states_fresh, states_write}

pub shifted_range-requires : goal.shifted_range-requires
shifted_range-requires c = search (asks_shift, states_shift c.in-Some-Shift.ensures c.in-Some-Shift.field-0-is)

pub sum_range-requires : goal.sum_range-requires
sum_range-requires c = search (asks_sum, states_sum c.in-Some-Sum.ensures c.in-Some-Sum.field-0-is)

pub difference_range-requires : goal.difference_range-requires
difference_range-requires c = search (asks_diff, states_diff c.in-Some-Diff.ensures c.in-Some-Diff.field-0-is)

pub negated_range-requires : goal.negated_range-requires
negated_range-requires c = search (asks_neg, states_neg c.in-Some-Neg.ensures c.in-Some-Neg.field-0-is)

pub returns-in-Some-Const : goal.returns-in-Some-Const
returns-in-Some-Const c = search (entry_const, states_const c.in-Some-Const.ensures c.in-Some-Const.field-0-is)

pub returns-in-Some-Var : goal.returns-in-Some-Var
returns-in-Some-Var c = search (entry_var, states_var c.in-Some-Var.ensures c.in-Some-Var.field-0-is)

pub returns-in-Some-Shift : goal.returns-in-Some-Shift
returns-in-Some-Shift c = search (entry_shift, states_shift c.in-Some-Shift.ensures c.in-Some-Shift.field-0-is)

pub returns-in-Some-Sum : goal.returns-in-Some-Sum
returns-in-Some-Sum c = search (entry_sum, states_sum c.in-Some-Sum.ensures c.in-Some-Sum.field-0-is)

pub returns-in-Some-Diff : goal.returns-in-Some-Diff
returns-in-Some-Diff c = search (entry_diff, states_diff c.in-Some-Diff.ensures c.in-Some-Diff.field-0-is)

pub returns-in-Some-Neg : goal.returns-in-Some-Neg
returns-in-Some-Neg c = search (entry_neg, states_neg c.in-Some-Neg.ensures c.in-Some-Neg.field-0-is)

pub returns-in-Some-Read : goal.returns-in-Some-Read
returns-in-Some-Read c = search (entry_read, states_read c.in-Some-Read.ensures c.in-Some-Read.field-0-is)

pub returns-in-Some-Fresh : goal.returns-in-Some-Fresh
returns-in-Some-Fresh c = search (entry_fresh, states_fresh c.in-Some-Fresh.ensures c.in-Some-Fresh.field-0-is)

pub returns-in-Some-Write : goal.returns-in-Some-Write
returns-in-Some-Write c = search (entry_write, states_write c.in-Some-Write.ensures c.in-Some-Write.field-0-is)

pub returns-in-None : goal.returns-in-None
returns-in-None c = entry_none _ _ _ _ c.in-None.ensures c.of_word-in-None.ensures
