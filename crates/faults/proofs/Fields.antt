-- The tests of one field and of the numbers; and which rows are there: the one that a field names, and the first one of a name.
use Prim.Native.Nat.{ℕ, ◌+◌, ◌^◌, ◌≤◌, ◌<◌}
use native.Mathlib.Omega.{arith}
use mathlib.Core.Path.{◌≡◌, ap}
use mathlib.Core.Bool.{Bool, ◌&&◌, ◌||◌}
use mathlib.Core.List.{List}
use lib.Dec.{leb}
use lib.ListN.{length}
use Rattle.row.specs.declared.Row.{Row}
use Rattle.row.specs.Names.{LENGTH, place}
use Rattle.row.proofs.Places.{room_below, place_grows}
use Rattle.table.specs.declared.Uses.{Uses}
use Rattle.table.specs.declared.Sort.{Sort}
use Rattle.table.specs.declared.Use.{Use}
use Rattle.table.specs.declared.Use.TheVariants.{Refers}
use Rattle.table.specs.Uses.{is_reference}
use Rattle.table.specs.Refusals.{reference, use_at, large_number, not_below}
use Rattle.table.proofs.Fields.{refers_below}
use Rattle.faults.specs.Asked.{Named, FirstAsked}

pub not_below_lem : (r : ℕ) (u : Uses) (x : Row) (f : ℕ) {how : Use} {at : ℕ} → how ≡ use_at u f → at ≡ reference x f → (is_reference how && leb r at) ≡ not_below r u x f
unfolding not_below
not_below_lem r u x f e at_is = rw (e, at_is)

pub large_number_lem : (w : ℕ) (u : Uses) (x : Row) {k h : Bool} → k ≡ leb (2 ^ w) x.k → h ≡ leb (2 ^ w) x.h → (u.k && k || u.h && h) ≡ large_number w u x
unfolding large_number
large_number_lem w u x k_is h_is = rw (k_is, h_is)

-- a reference that passed 13 names a row of the table
pub named_room : (t : List ℕ) (r : ℕ) (u : Uses) (x : Row) (f : ℕ) {at : ℕ} {sort : Sort} → Named t r u x f → use_at u f ≡ Refers sort → at ≡ reference x f →
    place at + LENGTH ≤ length t
unfolding is_reference
named_room t r u x f named e at_is =
    let low : reference x f < r = refers_below r u x f named.below (ap is_reference e) in
    rw at_is (omega (arith, room_below low))

-- the first row of a name is there
pub first_room : (t : List ℕ) (r : ℕ) (x : Row) (first : ℕ) → FirstAsked t r x first → place first + LENGTH ≤ length t
first_room t r x first asked = omega (arith, place_grows asked.low, asked.within)
