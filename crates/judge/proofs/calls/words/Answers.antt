use mathlib.Core.Path.{refl}
use Rattle.table.proofs.Told.{fault_some, verdict_on}
use Rattle.judge.proofs.Judged.{both_refused, both_onward, pair_place, pair_place_second, first_array, second_array, no_array}
use Rattle.judge.proofs.calls.words.Goals as goal

pub returns-in_err-with_kept : goal.returns-in_err-with_kept
returns-in_err-with_kept c =
    verdict_on c.from_residual.result _ c.from_residual.ensures.1
    (both_refused _ _ c.in_err-with_kept.ensures _ (fault_some _))

pub is_array-requires : goal.is_array-requires
is_array-requires c = search (pair_place, pair_place_second)

pub returns-then-is_array : goal.returns-then-is_array
returns-then-is_array c = both_onward _ _ c.in_ok-with_kept.ensures refl (first_array _ _ _ c.is_array.ensures c.if-is_array.true)

pub is_array-requires-2 : goal.is_array-requires-2
is_array-requires-2 c = search (pair_place, pair_place_second)

pub returns-then-is_array-2 : goal.returns-then-is_array-2
returns-then-is_array-2 c =
    both_onward _ _ c.in_ok-with_kept.ensures refl
    (second_array _ _ _ c.is_array.ensures c.if-is_array.false c.is_array-2.ensures c.if-is_array-2.true)

pub returns : goal.returns
returns c =
    both_onward _ _ c.in_ok-with_kept.ensures refl
    (no_array _ _ _ c.is_array.ensures c.if-is_array.false c.is_array-2.ensures c.if-is_array-2.false)
