use Rattle.rules.proofs.Turns.{turn_written}
use Rattle.rules.proofs.turn.write_row.Goals as goal

pub returns : goal.returns
returns c = search turn_written
