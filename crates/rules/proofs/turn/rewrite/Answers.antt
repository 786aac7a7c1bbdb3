use Rattle.rules.proofs.Rewrites.{asked_shift, asked_sum, asked_diff, asked_neg, asked_write, rewrite_const, rewrite_var, rewrite_shift, rewrite_sum, rewrite_diff, rewrite_neg, rewrite_read, rewrite_fresh, rewrite_write, rewrite_none}
use Rattle.rules.proofs.Rewrites.{asked_read, asked_follow}
use Rattle.rules.proofs.turn.rewrite.Goals as goal
use Rattle.row.proofs.States.{states_const, states_var, states_shift, states_sum, states_diff, states_neg, states_read, states_fresh, states_write}

pub shift_rule-requires : goal.shift_rule-requires
shift_rule-requires c = search (asked_shift, states_shift c.in-Some-Shift.ensures c.in-Some-Shift.field-0-is)

pub sum_rule-requires : goal.sum_rule-requires
sum_rule-requires c = search (asked_sum, states_sum c.in-Some-Sum.ensures c.in-Some-Sum.field-0-is)

pub diff_rule-requires : goal.diff_rule-requires
diff_rule-requires c = search (asked_diff, states_diff c.in-Some-Diff.ensures c.in-Some-Diff.field-0-is)

pub neg_rule-requires : goal.neg_rule-requires
neg_rule-requires c = search (asked_neg, states_neg c.in-Some-Neg.ensures c.in-Some-Neg.field-0-is)

pub write_rule-requires : goal.write_rule-requires
write_rule-requires c = search (asked_write, states_write c.in-Some-Write.ensures c.in-Some-Write.field-0-is)

pub returns-in-Some-Const : goal.returns-in-Some-Const
returns-in-Some-Const c = search (rewrite_const, states_const c.in-Some-Const.ensures c.in-Some-Const.field-0-is)

pub returns-in-Some-Var : goal.returns-in-Some-Var
returns-in-Some-Var c = search (rewrite_var, states_var c.in-Some-Var.ensures c.in-Some-Var.field-0-is)

pub returns-in-Some-Shift : goal.returns-in-Some-Shift
returns-in-Some-Shift c = search (rewrite_shift, states_shift c.in-Some-Shift.ensures c.in-Some-Shift.field-0-is)

pub returns-in-Some-Sum : goal.returns-in-Some-Sum
returns-in-Some-Sum c = search (rewrite_sum, states_sum c.in-Some-Sum.ensures c.in-Some-Sum.field-0-is)

pub returns-in-Some-Diff : goal.returns-in-Some-Diff
returns-in-Some-Diff c = search (rewrite_diff, states_diff c.in-Some-Diff.ensures c.in-Some-Diff.field-0-is)

pub returns-in-Some-Neg : goal.returns-in-Some-Neg
returns-in-Some-Neg c = search (rewrite_neg, states_neg c.in-Some-Neg.ensures c.in-Some-Neg.field-0-is)

pub returns-in-Some-Read : goal.returns-in-Some-Read
returns-in-Some-Read c = search (rewrite_read, states_read c.in-Some-Read.ensures c.in-Some-Read.field-0-is)

pub returns-in-Some-Fresh : goal.returns-in-Some-Fresh
returns-in-Some-Fresh c = search (rewrite_fresh, states_fresh c.in-Some-Fresh.ensures c.in-Some-Fresh.field-0-is)

pub returns-in-Some-Write : goal.returns-in-Some-Write
returns-in-Some-Write c = search (rewrite_write, states_write c.in-Some-Write.ensures c.in-Some-Write.field-0-is)

pub returns-in-None : goal.returns-in-None
returns-in-None c = search (rewrite_none, c.in-None.ensures)

pub read_rule-requires-clause-reading : goal.read_rule-requires-clause-reading
read_rule-requires-clause-reading c = search (asked_read, states_read c.in-Some-Read.ensures c.in-Some-Read.field-0-is)

pub read_rule-requires-clause-following : goal.read_rule-requires-clause-following
read_rule-requires-clause-following c = search (asked_follow, states_read c.in-Some-Read.ensures c.in-Some-Read.field-0-is)
