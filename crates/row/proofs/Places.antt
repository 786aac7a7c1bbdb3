-- Where rows stand, and that row r lies within n rows.
use Prim.Native.Nat.{ℕ, suc, ◌+◌, ◌<◌, ◌≤◌}
use native.Mathlib.Omega.{arith}
use mathlib.Core.Path.{◌≡◌}
use mathlib.Core.List.{List}
use lib.ListN.{length}
use Rattle.row.specs.Names.{HEADER, LENGTH, place}

-- row r lies within n rows
pub room_below : {r n : ℕ} → r < n → place r + LENGTH ≤ place n
unfolding place
room_below h = omega arith

pub room_in : (t : List ℕ) {r n : ℕ} → r < n → length t ≡ place n → place r + LENGTH ≤ length t
room_in t h e = rw e (room_below h)

pub header_below : (r : ℕ) → HEADER ≤ place r
unfolding place
header_below r = omega arith

pub place_grows : {r n : ℕ} → r ≤ n → place r ≤ place n
unfolding place
place_grows h = omega arith

pub place_suc : (r : ℕ) → place (suc r) ≡ place r + LENGTH
unfolding place
place_suc r = omega arith
