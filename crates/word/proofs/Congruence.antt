-- Numbers that agree modulo M, from an equation between whole numbers. Assumes nothing.
use Rattle.std.proofs.Common.{◌≡◌, ℕ, ◌+◌, ◌*◌, ◌/◌, ◌%◌, ◌<◌, sym, ap, ◌∙◌, mod-eq_of_lt, div-add-mod', arith}
use native.Mathlib.Nat.{add-mul-mod_self_right}

-- x and y differ by multiples of M
pub cong : (M i j x y : ℕ) → x + i * M ≡ y + j * M → x % M ≡ y % M
cong M i j x y e = sym (add-mul-mod_self_right x i M) ∙ ap (λ (n : ℕ). n % M) e ∙ add-mul-mod_self_right y j M

-- and x is a word
pub is_mod : (M i j x y : ℕ) → x < M → x + i * M ≡ y + j * M → x ≡ y % M
is_mod M i j x y h e = sym (mod-eq_of_lt h) ∙ cong M i j x y e

-- what was added on both sides may go
pub cancel : (M z x y : ℕ) → (x + z) % M ≡ (y + z) % M → x % M ≡ y % M
cancel M z x y e =
    cong M ((y + z) / M) ((x + z) / M) x y
    (omega (arith, div-add-mod' (x + z) M, div-add-mod' (y + z) M))
