use Rattle.touching.proofs.Marking.{r_there, before_r_there, mark_reached, marks_next, marks_done}
use Rattle.touching.proofs.mark_touched.Goals as goal

pub leading-was-requires : goal.leading-was-requires
leading-was-requires c = search before_r_there

pub stated_at-requires : goal.stated_at-requires
stated_at-requires c = search r_there

pub leading-is-requires : goal.leading-is-requires
leading-is-requires c = search before_r_there

pub touches-touched-requires : goal.touches-touched-requires
touches-touched-requires c = search mark_reached

pub loop-x-preserved : goal.loop-x-preserved
loop-x-preserved c = search (marks_next, c.mark_if.ensures, c.touches-touched.ensures)

pub returns : goal.returns
returns c = search marks_done
