-- Rows that stand are there: what the functions ask of a row, from what is known of all. Assumes nothing.
use Prim.Native.Nat.{ℕ, ◌+◌, ◌≤◌, ◌<◌}
use native.Mathlib.Omega.{arith}
use mathlib.Core.Path.{◌≡◌}
use mathlib.Core.Bool.{Bool}
use mathlib.Core.List.{List}
use lib.ListN.{length}
use Rattle.row.specs.Names.{LENGTH, place}
use Rattle.term.specs.Term.{is_array}
use Rattle.term.specs.WellFormed.{Names}
use Rattle.term.specs.Bytes.{look}
use Rattle.term.proofs.Names.{names_widen, names_both}
use Rattle.walks.specs.Ready.{NamesBelow, Standing, Sorted, Reached}

module _ (R : List ℕ) (r x : ℕ) (rows : Standing R r) (below : x < r) where
  pub row_room : place x + LENGTH ≤ length R
  unfolding place
  row_room = omega arith

  pub row_reached : Reached R x
  row_reached = record { few = omega arith; room = row_room }

-- what a row that stands names stands too
module _ (R : List ℕ) (r : ℕ) (rows : Standing R r) where
  pub rows_closed : (array : Bool) (x : ℕ) → x < r → NamesBelow r (look R x)
  rows_closed array x l = names_widen {W = λ s y. y < r} (look R x) (λ (s : Bool) (y : ℕ) (h : y < x). omega arith) (rows.names x l)

  pub sorts_closed : Sorted R r → (array : Bool) (x : ℕ) → (x < r) × (is_array (look R x) ≡ array)
      → Names (λ s y. (y < r) × (is_array (look R y) ≡ s)) (look R x)
  sorts_closed sorted array x l =
      names_both (λ s y. y < r) (λ s y. is_array (look R y) ≡ s) (look R x) (rows_closed array x l.0) (sorted.sorts x l.0)
