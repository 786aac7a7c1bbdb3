use Rattle.rules.proofs.WordRules.{difference_row}
use Rattle.rules.proofs.words.opened_difference.Goals as goal

pub returns : goal.returns
returns c = search difference_row
