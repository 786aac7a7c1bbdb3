use Rattle.needed.proofs.Marking.{below_no_kind, below_none, below_asks, below_one, below_asks_first, below_asks_second, below_two}
use Rattle.needed.proofs.rows.mark_below.Goals as goal

pub returns-in_default : goal.returns-in_default
returns-in_default c = search (below_no_kind, c.in_default.ensures)

pub mark_if-requires : goal.mark_if-requires
mark_if-requires c = search (below_asks, c.in-Some.ensures)

pub mark_if-requires-in-Sum : goal.mark_if-requires-in-Sum
mark_if-requires-in-Sum c = search (below_asks_first, c.in-Some.ensures)

pub mark_if-requires-in-Sum-2 : goal.mark_if-requires-in-Sum-2
mark_if-requires-in-Sum-2 c = search (below_asks_second, c.in-Some.ensures)

pub returns-in-Shift : goal.returns-in-Shift
returns-in-Shift c = search (below_one, c.in-Some.ensures)

pub returns-in-Sum : goal.returns-in-Sum
returns-in-Sum c = search (below_two, c.in-Some.ensures)

pub returns-in_default-kind : goal.returns-in_default-kind
returns-in_default-kind c = search (below_none, c.in-Some.ensures)
