-- Arithmetic modulo M, for every M above 0. A table of width w has M = 2 ^ w, w = 64 included.
use Rattle.std.specs.Prelude.{ℕ, ◌+◌, ◌-◌, ◌%◌}

-- x + y
unfoldable pub plus : ℕ → ℕ → ℕ → ℕ
plus M x y = (x + y) % M

-- x - y: what, with y added, is x again
unfoldable pub minus : ℕ → ℕ → ℕ → ℕ
minus M x y = (x + (M - y % M)) % M
