use Rattle.rules.proofs.Turns.{settle_made, settle_kept}
use Rattle.rules.proofs.turn.settle.Goals as goal

pub returns-then-touched : goal.returns-then-touched
returns-then-touched c = search settle_made

pub returns : goal.returns
returns c = search settle_kept
