use Rattle.clean.proofs.Clean.{used_number, unused_number}
use Rattle.clean.proofs.number.Goals as goal

pub returns-then-used : goal.returns-then-used
returns-then-used c = search used_number

pub returns : goal.returns
returns c = search unused_number
