use Rattle.table.proofs.Told.{verdict_on}
use Rattle.scan.proofs.Scan.{head_checked, rows_checked}
use Rattle.scan.proofs.check.Goals as goal

pub returns-in_err-head : goal.returns-in_err-head
returns-in_err-head c = verdict_on c.from_residual.result _ c.from_residual.ensures.1 (head_checked _ _ c.in_err-head.ensures)

pub returns : goal.returns
returns c = rows_checked _ c.in_ok-head.ensures c.check_rows.ensures
