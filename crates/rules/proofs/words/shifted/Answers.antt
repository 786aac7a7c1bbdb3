use Rattle.rules.proofs.WordRules.{shifted_row_lem}
use Rattle.rules.proofs.words.shifted.Goals as goal

pub returns : goal.returns
returns c = search shifted_row_lem
