use Rattle.names.proofs.Slots.{slot_free, kept_there, slot_found, searched_found}
use Rattle.names.proofs.by_slot.Goals as goal

pub returns-then-kept-eq0 : goal.returns-then-kept-eq0
returns-then-kept-eq0 c = search slot_free

pub stated_at-requires : goal.stated_at-requires
stated_at-requires c = search kept_there

pub returns-then-stated_at-name : goal.returns-then-stated_at-name
returns-then-stated_at-name c = search slot_found

pub returns : goal.returns
returns c = search searched_found
