use Rattle.compare.proofs.Answered.{answered_long, answered_wide, refusal_written, line_written}
use Rattle.compare.proofs.answer.put_answer.Goals as goal

pub returns-then-answer-ne0 : goal.returns-then-answer-ne0
returns-then-answer-ne0 c = search refusal_written

pub top_of-requires-clause-header : goal.top_of-requires-clause-header
top_of-requires-clause-header c = search answered_long

pub top_of-requires-clause-width_fits : goal.top_of-requires-clause-width_fits
top_of-requires-clause-width_fits c = search answered_wide

pub returns : goal.returns
returns c = search line_written
