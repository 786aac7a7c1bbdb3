use Rattle.table.proofs.Told.{fault_some, verdict_on}
use Rattle.judge.proofs.Judged.{run_refused_lem, head_passes, run_judged}
use Rattle.judge.proofs.calls.run.Goals as goal

pub returns-in_err-before_rows : goal.returns-in_err-before_rows
returns-in_err-before_rows c = verdict_on c.from_residual.result _ c.from_residual.ensures.1 (run_refused_lem _ _ _ c.in_err-before_rows.ensures (fault_some _))

pub check_rows-requires : goal.check_rows-requires
check_rows-requires c = head_passes _ _ _ c.in_ok-before_rows.ensures

pub returns : goal.returns
returns c = run_judged _ _ _ c.in_ok-before_rows.ensures c.check_rows.ensures
