-- A test that none of the three reference fields passes.
use Prim.Native.Nat.{ℕ, zero, suc, ◌<◌}
use native.Mathlib.Omega.{arith}
use mathlib.Core.Path.{◌≡◌}
use mathlib.Core.Bool.{Bool, false, ◌||◌}
use Rattle.table.specs.Refusals.{any_field}
use Rattle.basis.proofs.Pick.{or_left, or_right}

pub any_none : (test : ℕ → Bool) → any_field test ≡ false → (f : ℕ) → f < 3 → test f ≡ false
unfolding any_field
any_none test e zero l = or_left (test 0) (test 1) (or_left (test 0 || test 1) (test 2) e)
any_none test e (suc zero) l = or_right (test 0) (test 1) (or_left (test 0 || test 1) (test 2) e)
any_none test e (suc (suc zero)) l = or_right (test 0 || test 1) (test 2) e
any_none test e (suc (suc (suc f))) l = absurd (omega arith)

pub none_any : (test : ℕ → Bool) → ((f : ℕ) → f < 3 → test f ≡ false) → any_field test ≡ false
unfolding any_field
none_any test h = rw (h 0 (omega arith), h 1 (omega arith), h 2 (omega arith))
