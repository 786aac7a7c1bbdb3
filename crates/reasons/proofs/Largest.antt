-- The largest word of a table: the modulus is one more.
use Prim.Native.Nat.{ℕ, ◌+◌, ◌-◌, ◌^◌}
use native.Mathlib.Omega.{arith}
use mathlib.Core.Path.{◌≡◌}
use mathlib.Core.List.{List}
use lib.Pow.{pow_pos}
use Rattle.in_bytes.specs.Numbers.{Read}
use Rattle.table.specs.Refusals.{width}

pub top_next : (t : List ℕ) {w top : ℕ} → Read (width t) 256 w → top ≡ 2 ^ w - 1 → top + 1 ≡ 2 ^ width t
top_next t {w} told e = rw (← told.is) (omega (arith, e, pow_pos w))
