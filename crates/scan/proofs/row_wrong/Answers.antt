use native.Mathlib.Omega.{arith}
use Rattle.table.proofs.Told.{told_on}
use Rattle.scan.proofs.Scan.{own_asked, stopped_own, looking, named_asked, looked, first_asked, bounds_asked, passed, stopped_13, stopped_14, stopped_15, stopped_18}
use Rattle.scan.proofs.row_wrong.Goals as goal

pub own_fault-requires : goal.own_fault-requires
own_fault-requires c = search own_asked

pub returns-in_err-own_fault-clause-fault : goal.returns-in_err-own_fault-clause-fault
returns-in_err-own_fault-clause-fault c = told_on c.from_residual.result _ c.from_residual.ensures.1 (stopped_own _ _ _ _ _ c.requires _ c.of-u.ensures _ c.in_err-own_fault.ensures)

pub loop-f-init : goal.loop-f-init
loop-f-init c = looking _ _ _ _ _ c.requires _ c.of-u.ensures c.in_ok-own_fault.ensures

pub returns-then-not_below-clause-fault : goal.returns-then-not_below-clause-fault
returns-then-not_below-clause-fault c =
    stopped_13 _ _ _ _ _ c.requires _ _ _ c.loop-f.invariant (omega arith) c.not_below.ensures c.if-not_below.true

pub wrong_sort-mixed-requires : goal.wrong_sort-mixed-requires
wrong_sort-mixed-requires c =
    named_asked _ _ _ _ _ c.requires _ _ _ c.loop-f.invariant (omega arith) c.not_below.ensures c.if-not_below.false

pub loop-f-preserved : goal.loop-f-preserved
loop-f-preserved c =
    looked _ _ _ _ _ c.requires _ _ _ c.loop-f.invariant (omega arith) c.not_below.ensures c.if-not_below.false c.wrong_sort-mixed.ensures

pub returns-then-mixed-clause-fault : goal.returns-then-mixed-clause-fault
returns-then-mixed-clause-fault c = search stopped_14

pub returns-then-bounds_crossed-clause-fault : goal.returns-then-bounds_crossed-clause-fault
returns-then-bounds_crossed-clause-fault c = search stopped_15

pub first_of-first-requires : goal.first_of-first-requires
first_of-first-requires c = search first_asked

pub other_bounds-requires : goal.other_bounds-requires
other_bounds-requires c = search bounds_asked

pub returns-then-other_bounds-clause-fault : goal.returns-then-other_bounds-clause-fault
returns-then-other_bounds-clause-fault c = search stopped_18

pub returns-clause-fault : goal.returns-clause-fault
returns-clause-fault c = search passed
