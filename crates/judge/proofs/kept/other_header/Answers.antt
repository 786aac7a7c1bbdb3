use Rattle.judge.proofs.KeptJudged.{head_count, head_count_kept, heads_told}
use Rattle.judge.proofs.kept.other_header.Goals as goal

pub slice_bounds-there-end : goal.slice_bounds-there-end
slice_bounds-there-end c = search (head_count, head_count_kept)

pub slice_bounds-here-end : goal.slice_bounds-here-end
slice_bounds-here-end c = search (head_count, head_count_kept)

pub returns : goal.returns
returns c = heads_told _ _ c.requires c.ne.ensures
