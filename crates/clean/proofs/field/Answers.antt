use Rattle.clean.proofs.Clean.{early_room}
use Rattle.clean.proofs.field.Goals as goal

pub kind_at-requires : goal.kind_at-requires
kind_at-requires c = search early_room
