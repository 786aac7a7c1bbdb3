use Rattle.rules.proofs.Turns.{made_later, made_own}
use Rattle.rules.proofs.Turns.{made_asks, made_traced}
use Rattle.rules.proofs.turn.made.Goals as goal

pub returns-then-first-r : goal.returns-then-first-r
returns-then-first-r c = search made_later

pub returns : goal.returns
returns c = search made_own

pub rewrite-requires-clause-asked : goal.rewrite-requires-clause-asked
rewrite-requires-clause-asked c = search (made_asks, made_traced)

pub rewrite-requires-clause-traced : goal.rewrite-requires-clause-traced
rewrite-requires-clause-traced c = search (made_asks, made_traced)
