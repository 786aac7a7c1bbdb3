use Rattle.clean.proofs.Clean.{const_told, shift_told, sum_told, diff_told, neg_told, read_told, fresh_told, write_told}
use Rattle.clean.proofs.by_kind.Goals as goal
use Rattle.row.proofs.States.{states_const, states_shift, states_sum, states_diff, states_neg, states_read, states_fresh, states_write}

pub returns-in-Some-Const : goal.returns-in-Some-Const
returns-in-Some-Const c = search (const_told, states_const c.in-Some-Const.ensures c.in-Some-Const.field-0-is)

pub returns-in-Some-Shift : goal.returns-in-Some-Shift
returns-in-Some-Shift c = search (shift_told, states_shift c.in-Some-Shift.ensures c.in-Some-Shift.field-0-is)

pub returns-in-Some-Sum : goal.returns-in-Some-Sum
returns-in-Some-Sum c = search (sum_told, states_sum c.in-Some-Sum.ensures c.in-Some-Sum.field-0-is)

pub returns-in-Some-Diff : goal.returns-in-Some-Diff
returns-in-Some-Diff c = search (diff_told, states_diff c.in-Some-Diff.ensures c.in-Some-Diff.field-0-is)

pub returns-in-Some-Neg : goal.returns-in-Some-Neg
returns-in-Some-Neg c = search (neg_told, states_neg c.in-Some-Neg.ensures c.in-Some-Neg.field-0-is)

pub returns-in-Some-Read : goal.returns-in-Some-Read
returns-in-Some-Read c = search (read_told, states_read c.in-Some-Read.ensures c.in-Some-Read.field-0-is)

pub returns-in-Some-Fresh : goal.returns-in-Some-Fresh
returns-in-Some-Fresh c = search (fresh_told, states_fresh c.in-Some-Fresh.ensures c.in-Some-Fresh.field-0-is)

pub returns-in-Some-Write : goal.returns-in-Some-Write
returns-in-Some-Write c = search (write_told, states_write c.in-Some-Write.ensures c.in-Some-Write.field-0-is)
