use Rattle.copying.proofs.Copied.{part_copied}
use Rattle.copying.proofs.copy.Goals as goal

pub returns : goal.returns
returns c = part_copied c.requires c.copy_from_slice.ensures.after
