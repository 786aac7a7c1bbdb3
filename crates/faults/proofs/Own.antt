-- The ways out of `own_fault`: 9 to 12 of one row, each over the facts that its place holds.
use Prim.Native.Nat.{ℕ}
use mathlib.Core.Path.{◌≡◌}
use mathlib.Core.Bool.{cond, Bool, true, false, not, ◌&&◌}
use mathlib.Core.List.{List}
use lib.Dec.{leb}
use lib.ListN.{take}
use Rattle.basis.specs.Reason.{first}
use Rattle.row.specs.declared.Row.{Row}
use Rattle.row.specs.Names.{place}
use Rattle.row.specs.Bytes.{mark_wrong}
use Rattle.table.specs.declared.Uses.{Uses}
use Rattle.table.specs.Refusals.{stray_field, large_number, row_reasons}
use Rattle.faults.specs.Asked.{OwnAsked}

module _ (t : List ℕ) (w r : ℕ) (u : Uses) (x : Row) (asked : OwnAsked t w r u x)
    {mark kind stray large : Bool} (mark_is : mark ≡ mark_wrong t (place r)) (kind_is : kind ≡ not (leb 1 x.kind && leb x.kind 9))
    (stray-is : stray ≡ stray_field u x) (large_is : large ≡ large_number w u x) where
  own : first (take 4 (row_reasons t r x)) ≡ cond mark 9 (cond kind 10 (cond stray 11 (cond large 12 0)))
  unfolding first row_reasons
  own = rw (← asked.is_uses, ← asked.is_width, ← mark_is, ← kind_is, ← stray-is, ← large_is)

  pub own_9 : mark ≡ true → 9 ≡ first (take 4 (row_reasons t r x))
  own_9 wrong = rw (own, wrong)

  pub own_10 : mark ≡ false → kind ≡ true → 10 ≡ first (take 4 (row_reasons t r x))
  own_10 marked wrong = rw (own, marked, wrong)

  pub own_11 : mark ≡ false → kind ≡ false → stray ≡ true → 11 ≡ first (take 4 (row_reasons t r x))
  own_11 marked known wrong = rw (own, marked, known, wrong)

  pub own_12 : mark ≡ false → kind ≡ false → stray ≡ false → large ≡ true → 12 ≡ first (take 4 (row_reasons t r x))
  own_12 marked known clean wrong = rw (own, marked, known, clean, wrong)

  pub own_0 : mark ≡ false → kind ≡ false → stray ≡ false → large ≡ false → 0 ≡ first (take 4 (row_reasons t r x))
  own_0 marked known clean small = rw (own, marked, known, clean, small)
