use Rattle.walks.proofs.Reach.{row_room}
use Rattle.walks.proofs.Stores.{step_ends, step_compared, step_same, step_apart, step_unknown}
use Rattle.walks.proofs.walking.step_at.Goals as goal

pub returns-then-x : goal.returns-then-x
returns-then-x c = search step_ends

pub related-requires : goal.related-requires
related-requires c = search step_compared

pub decode-requires : goal.decode-requires
decode-requires c = search row_room

pub returns-in-Same : goal.returns-in-Same
returns-in-Same c = search step_same

pub returns-in-Apart : goal.returns-in-Apart
returns-in-Apart c = search step_apart

pub returns-in-Unknown : goal.returns-in-Unknown
returns-in-Unknown c = search step_unknown
