use Rattle.walks.proofs.Walks.{walk_spent, walk_hits, walk_stays, walk_ends, walk_goes_on}
use Rattle.walks.proofs.walking.walk.Goals as goal

pub returns-in-Hit : goal.returns-in-Hit
returns-in-Hit c = search walk_hits

pub returns-in-Stay : goal.returns-in-Stay
returns-in-Stay c = search walk_stays

pub returns-in-End : goal.returns-in-End
returns-in-End c = search walk_ends

pub loop-compared-preserved : goal.loop-compared-preserved
loop-compared-preserved c = search walk_goes_on

pub returns : goal.returns
returns c = search walk_spent
