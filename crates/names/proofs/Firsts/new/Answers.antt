use Rattle.names.proofs.Slots.{no_slots}
use Rattle.names.proofs.Firsts.new.Goals as goal

pub returns : goal.returns
returns c = no_slots
