use Rattle.judge.proofs.KeptJudged.{beside_header, sorts_begun, sort_place, sort_place_kept, sorts_differ, sorts_next, sorts_same}
use Rattle.judge.proofs.kept.other_sorts.Goals as goal

pub rows_of-n-requires : goal.rows_of-n-requires
rows_of-n-requires c = search beside_header

pub loop-x-init : goal.loop-x-init
loop-x-init c = search sorts_begun

pub is_array-requires : goal.is_array-requires
is_array-requires c = search sort_place_kept

pub is_array-requires-in-loop-x : goal.is_array-requires-in-loop-x
is_array-requires-in-loop-x c = search sort_place

pub returns-then-is_array : goal.returns-then-is_array
returns-then-is_array c = search sorts_differ

pub loop-x-preserved : goal.loop-x-preserved
loop-x-preserved c = search sorts_next

pub returns : goal.returns
returns c = search sorts_same
