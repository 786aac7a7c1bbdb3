-- A test of the three reference fields, one after another.
use Prim.Native.Nat.{ℕ, zero, suc, ◌+◌, ◌<◌}
use native.Mathlib.Numerals.{add-one}
use native.Mathlib.Omega.{arith}
use mathlib.Core.Path.{◌≡◌}
use mathlib.Core.Bool.{Bool, true, false, ◌||◌, or-true}
use Rattle.table.specs.Refusals.{any_field}

-- one of the first f fields passes the test
unfoldable pub any_below : (ℕ → Bool) → ℕ → Bool
any_below test zero = false
any_below test (suc f) = any_below test f || test f

pub any_next : (test : ℕ → Bool) (f : ℕ) {before here : Bool} → any_below test f ≡ before → test f ≡ here → any_below test (f + 1) ≡ (before || here)
unfolding any_below
any_next test f p q = rw (add-one, p, q)

pub any_all : (test : ℕ → Bool) (f : ℕ) → f ≡ 3 → any_below test f ≡ any_field test
unfolding any_below any_field
any_all test f e = rw e

pub any_here : (test : ℕ → Bool) (f : ℕ) → f < 3 → test f ≡ true → any_field test ≡ true
unfolding any_field
any_here test zero l e = rw e
any_here test (suc zero) l e = rw (e, or-true (test 0))
any_here test (suc (suc zero)) l e = rw (e, or-true (test 0 || test 1))
any_here test (suc (suc (suc f))) l e = absurd (omega arith)
