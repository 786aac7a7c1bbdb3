use mathlib.Core.Path.{refl}
use Rattle.table.proofs.Told.{fault_some, verdict_on}
use Rattle.judge.proofs.Judged.{rows_refused, rows_onward}
use Rattle.explanation.proofs.Judged.{row_place, no_read, is_read_lem}
use Rattle.explanation.proofs.judging.read.Goals as goal

pub returns-in_err-check_rows : goal.returns-in_err-check_rows
returns-in_err-check_rows c =
    verdict_on c.from_residual.result _ c.from_residual.ensures.1 (rows_refused _ c.in_err-check_rows.ensures _ (fault_some _))

pub kind_at-requires : goal.kind_at-requires
kind_at-requires c = search row_place

pub returns-then-kind_at : goal.returns-then-kind_at
returns-then-kind_at c = rows_onward _ c.in_ok-check_rows.ensures refl (no_read _ _ c.kind_at.ensures c.if-kind_at.true)

pub returns : goal.returns
returns c = rows_onward _ c.in_ok-check_rows.ensures refl (is_read_lem _ _ c.kind_at.ensures c.if-kind_at.false)
