use native.Mathlib.Omega.{arith}
use mathlib.Core.Path.{refl}
use Rattle.table.proofs.Told.{fault_some}
use Rattle.simplify.proofs.Edits.{edit_refused_lem, take_asks, put_asks, judge_asks, back_asks, edited_refused, edit_few, edit_patches, edit_done}
use Rattle.simplify.proofs.editing.edit.Goals as goal

pub returns-in-Err : goal.returns-in-Err
returns-in-Err c = edit_refused_lem _ _ _ _ _ c.in-Err.ensures (fault_some _) (rw c.from.ensures at c.into.ensures)

pub take_row-requires : goal.take_row-requires
take_row-requires c = take_asks _ _ _ _ _ c.in_default.ensures refl

pub put_row-requires : goal.put_row-requires
put_row-requires c = put_asks _ _ _ _ _ c.in_default.ensures refl

pub with_kept-requires : goal.with_kept-requires
with_kept-requires c = judge_asks _ _ _ _ _ c.in_default.ensures refl c.put_row.ensures

pub put_row-requires-in-Err-with_kept : goal.put_row-requires-in-Err-with_kept
put_row-requires-in-Err-with_kept c = back_asks _ _ _ _ _ c.in_default.ensures refl c.put_row.ensures c.take_row.ensures

pub returns-in-Err-with_kept : goal.returns-in-Err-with_kept
returns-in-Err-with_kept c =
    edited_refused _ _ _ _ _ c.in_default.ensures refl c.put_row.ensures c.take_row.ensures c.in-Err-with_kept.ensures (fault_some _)
    c.put_row-in-Err-with_kept.ensures c.into-in-Err-with_kept.ensures

pub patch-requires : goal.patch-requires
patch-requires c =
    edit_patches _ _ _ _ _ c.in_default.ensures refl c.put_row.ensures c.take_row.ensures c.in_default-with_kept.ensures refl
    (omega (arith, edit_few _ _ _ _ _ c.in_default.ensures refl))

pub returns : goal.returns
returns c =
    edit_done _ _ _ _ _ c.in_default.ensures refl c.put_row.ensures c.take_row.ensures c.in_default-with_kept.ensures refl c.patch.ensures
