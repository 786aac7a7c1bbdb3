use Rattle.renew.proofs.Turning.{rounds_begun, loop_finds, loop_asks, removed_fits, compared_fits, loop_next}
use Rattle.renew.proofs.renew.Goals as goal

pub loop-r-init : goal.loop-r-init
loop-r-init c = search rounds_begun

pub first_of-first-requires : goal.first_of-first-requires
first_of-first-requires c = search loop_finds

pub turn-counts-requires : goal.turn-counts-requires
turn-counts-requires c = search loop_asks

pub overflow_add-removed : goal.overflow_add-removed
overflow_add-removed c = search removed_fits

pub overflow_add-compared : goal.overflow_add-compared
overflow_add-compared c = search compared_fits

pub loop-r-preserved : goal.loop-r-preserved
loop-r-preserved c = search loop_next
