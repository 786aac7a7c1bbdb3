use borrow.Author.Rules.{rules}
use Rattle.names.proofs.Slots.{low_first, next_fits, next_slots, nameless_found, named_found}
use Rattle.names.proofs.Firsts.first_of.Goals as goal

pub returns-then-name-eq0 : goal.returns-then-name-eq0
returns-then-name-eq0 c = search nameless_found

pub overflow_add-self : goal.overflow_add-self
overflow_add-self c = search (next_fits, low_first, rules)

pub overflow_cast-self : goal.overflow_cast-self
overflow_cast-self c = search (next_slots, low_first, rules)

pub returns : goal.returns
returns c =
    named_found _ _ _ (rw (← c.self.view_is) at c.requires) c.stated_at-name.ensures c.if-name-eq0.false c.self.told c.by_slot-first.ensures
