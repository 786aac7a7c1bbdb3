-- Tests and numbers over the first n rows.
use Rattle.std.specs.Prelude.{ℕ, zero, suc, ◌+◌, Bool, false, cond, ◌||◌}

-- how many pass
unfoldable pub count_where : (ℕ → Bool) → ℕ → ℕ
count_where test zero = 0
count_where test (suc n) = count_where test n + cond (test n) 1 0

-- the sum of their numbers
unfoldable pub total : (ℕ → ℕ) → ℕ → ℕ
total number zero = 0
total number (suc n) = total number n + number n

-- one of them passes
unfoldable pub any_below : (ℕ → Bool) → ℕ → Bool
any_below test zero = false
any_below test (suc n) = any_below test n || test n
