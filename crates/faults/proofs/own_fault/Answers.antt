use Rattle.faults.proofs.Own.{own_9, own_10, own_11, own_12, own_0}
use Rattle.faults.proofs.own_fault.Goals as goal

pub returns-then-mark : goal.returns-then-mark
returns-then-mark c = search own_9

pub returns-then-kind : goal.returns-then-kind
returns-then-kind c = search own_10

pub returns-then-stray : goal.returns-then-stray
returns-then-stray c = search own_11

pub returns-then-large : goal.returns-then-large
returns-then-large c = search own_12

pub returns : goal.returns
returns c = search own_0
