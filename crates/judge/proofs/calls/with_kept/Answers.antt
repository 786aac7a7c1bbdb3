use mathlib.Core.Path.{refl}
use Rattle.table.proofs.Told.{fault_some, verdict_on}
use Rattle.judge.proofs.Judged.{rows_refused, rows_onward, kept_holding, kept_refused, kept_passes}
use Rattle.judge.proofs.calls.with_kept.Goals as goal

pub returns-in_err-check_rows : goal.returns-in_err-check_rows
returns-in_err-check_rows c =
    verdict_on c.from_residual.result _ c.from_residual.ensures.1
    (rows_refused _ c.in_err-check_rows.ensures _ (fault_some _))

pub wrong-requires : goal.wrong-requires
wrong-requires c = search kept_holding

pub returns-then-wrong : goal.returns-then-wrong
returns-then-wrong c =
    rows_onward _ c.in_ok-check_rows.ensures refl (rw c.into.ensures (kept_refused _ _ c.wrong.ensures c.if-wrong.true))

pub returns : goal.returns
returns c = rows_onward _ c.in_ok-check_rows.ensures refl (kept_passes _ _ c.wrong.ensures c.if-wrong.false)
