use Rattle.reasons.proofs.Written.{two_put, one_put}
use Rattle.reasons.proofs.put_range.Goals as goal

pub returns-then-is_two : goal.returns-then-is_two
returns-then-is_two c = search two_put

pub returns : goal.returns
returns c = search one_put
