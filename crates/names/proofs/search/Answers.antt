use Rattle.names.proofs.Slots.{row_there, found_here, not_found}
use Rattle.names.proofs.search.Goals as goal

pub stated_at-requires : goal.stated_at-requires
stated_at-requires c = search row_there

pub returns-then-stated_at-name : goal.returns-then-stated_at-name
returns-then-stated_at-name c = search found_here

pub returns : goal.returns
returns c = search not_found
