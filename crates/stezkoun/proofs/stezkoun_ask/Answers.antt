use Rattle.stezkoun.proofs.Tells.{told_in_numbers}
use Rattle.stezkoun.proofs.stezkoun_ask.Goals as goal

pub returns : goal.returns
returns c = search told_in_numbers
