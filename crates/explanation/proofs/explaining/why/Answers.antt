use mathlib.Core.Path.{refl}
use Rattle.table.proofs.Told.{fault_some}
use Rattle.explanation.proofs.Refused.{row_refused, row_there, read_refused, read_there}
use Rattle.explanation.proofs.explaining.why.Goals as goal

pub returns-in-Err : goal.returns-in-Err
returns-in-Err c = row_refused _ _ _ _ c.in-Err.ensures (fault_some _) (rw c.into.ensures at c.not_listed.ensures)

pub read-requires : goal.read-requires
read-requires c = row_there _ _ _ c.in_default.ensures refl

pub returns-in-Err-read : goal.returns-in-Err-read
returns-in-Err-read c =
    read_refused _ _ _ _ c.in_default.ensures refl c.in-Err-read.ensures (fault_some _) c.not_listed-in-Err-read.ensures

pub explain-requires : goal.explain-requires
explain-requires c = read_there _ _ _ c.in_default.ensures refl c.in_default-read.ensures refl
