use native.Mathlib.Omega.{arith}
use mathlib.Core.Path.{refl}
use Rattle.table.proofs.Told.{fault_some}
use Rattle.simplify.proofs.FreshRun.{run_refused_lem, run_few, run_asks, run_header, run_done}
use Rattle.simplify.proofs.running.run.Goals as goal

pub returns-in-Err : goal.returns-in-Err
returns-in-Err c = run_refused_lem _ _ _ c.in-Err.ensures (fault_some _) c.into.ensures

pub fresh-counts-requires : goal.fresh-counts-requires
fresh-counts-requires c =
    rw c.new-store.ensures
    (run_asks _ _ _ c.in_default.ensures _ refl (omega (arith, run_few _ _ _ c.in_default.ensures refl)))

pub rows_of-requires : goal.rows_of-requires
rows_of-requires c = run_header _ _ _ c.in_default.ensures refl

pub returns : goal.returns
returns c = run_done _ _ _ c.in_default.ensures refl c.fresh-counts.ensures c.rows_of.ensures
