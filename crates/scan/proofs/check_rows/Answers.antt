use Rattle.table.proofs.Heads.{good_head, long_head}
use Rattle.scan.proofs.Scan.{entered, decoded_room, clean_asked, skipped, row_asked, next_row, passed_all, stopped}
use Rattle.scan.proofs.check_rows.Goals as goal

pub word_width-w-requires-clause-header : goal.word_width-w-requires-clause-header
word_width-w-requires-clause-header c = search long_head

pub word_width-w-requires-clause-width_fits : goal.word_width-w-requires-clause-width_fits
word_width-w-requires-clause-width_fits c = (good_head c.args.t.now c.requires).width_high

pub rows_of-n-requires : goal.rows_of-n-requires
rows_of-n-requires c = search long_head

pub loop-r-init : goal.loop-r-init
loop-r-init c = search entered

pub decode-x-requires : goal.decode-x-requires
decode-x-requires c = search decoded_room

pub by_kind-requires : goal.by_kind-requires
by_kind-requires c = search clean_asked

pub loop-r-preserved-then-by_kind : goal.loop-r-preserved-then-by_kind
loop-r-preserved-then-by_kind c = search skipped

pub row_wrong-requires : goal.row_wrong-requires
row_wrong-requires c = search row_asked

pub returns-in-Err : goal.returns-in-Err
returns-in-Err c = stopped _ _ _ _ _ c.loop-r.invariant c.loop-r-test.true _ c.in-Err.ensures.fault

pub loop-r-preserved : goal.loop-r-preserved
loop-r-preserved c = next_row _ _ _ _ _ c.loop-r.invariant c.loop-r-test.true c.in_default.ensures.fault c.in_default.ensures.asked

pub returns : goal.returns
returns c = search passed_all
