-- The code's masks and shifts, over every width: what they come to modulo 2 ^ w. Assumes nothing.
use Rattle.std.proofs.Common.{◌≡◌, ℕ, ◌+◌, ◌-◌, ◌*◌, ◌/◌, ◌%◌, ◌^◌, ◌<◌, ◌≤◌, false, not, eqb, leb, sym, ap, ◌∙◌, subst, mod-eq_of_lt, one-mul, le-div_iff_mul-le, sub-add_cancel, arith, pow_pos, ne_eqb, le-leb}
use mathlib.Core.Logic.{dite}
use native.Mathlib.Nat.{div-eq_of_lt}
use native.Mathlib.Decide.{dec_lt}
use borrow.Author.Tests.{lt-leb}
use lib.Bits.{bit_and, and_mask}
use lib.Pow.{pow-lt, mod-mod-pow}
use Rattle.word.specs.Word.{plus, minus}
use Rattle.word.proofs.Words.{minus_only}

one_shl : (w : ℕ) → w ≤ 64 → (w ≡ 64 → ⊥) → 1 * 2 ^ w % 2 ^ 64 ≡ 2 ^ w
one_shl w h n = let l : w < 64 = omega arith in rw (one-mul (2 ^ w)) (mod-eq_of_lt (pow-lt l))

pub shifted_some : (w : ℕ) → w ≤ 64 → (w ≡ 64 → ⊥) → 1 ≤ 1 * 2 ^ w % 2 ^ 64
shifted_some w h n = rw (one_shl w h n) (pow_pos w)

pub mask_is_top : (w : ℕ) → w ≤ 64 → (w ≡ 64 → ⊥) → 1 * 2 ^ w % 2 ^ 64 - 1 ≡ 2 ^ w - 1
mask_is_top w h n = rw (one_shl w h n)

pub all_is_top : (w : ℕ) → w ≡ 64 → 2 ^ 64 - 1 ≡ 2 ^ w - 1
all_is_top w e = rw e

pub masked_is_mod : (w x : ℕ) → w ≤ 64 → (w ≡ 64 → ⊥) → bit_and x (1 * 2 ^ w % 2 ^ 64 - 1) ≡ x % 2 ^ w
masked_is_mod w x h n = rw (one_shl w h n) (and_mask x w)

pub all_is_mod : (w x : ℕ) → w ≡ 64 → x < 2 ^ 64 → x ≡ x % 2 ^ w
all_is_mod w x e h = rw e (sym (mod-eq_of_lt h))

reduced_twice : (w n : ℕ) → w ≤ 64 → n % 2 ^ 64 % 2 ^ w ≡ n % 2 ^ w
reduced_twice w n h = subst (λ (k : ℕ). n % 2 ^ k % 2 ^ w ≡ n % 2 ^ w) (sub-add_cancel h) (mod-mod-pow n (64 - w) w)

-- a sum or difference wrapped at 64 bits, then reduced
pub wrapped_sum : (w x y s r : ℕ) → w ≤ 64 → s ≡ (x + y) % 2 ^ 64 → r ≡ s % 2 ^ w → r ≡ plus (2 ^ w) x y
unfolding plus
wrapped_sum w x y s r h e f = f ∙ ap (λ (n : ℕ). n % 2 ^ w) e ∙ reduced_twice w (x + y) h

-- the same by a mask with the largest word
pub masked_sum : (w x y s top : ℕ) → w ≤ 64 → top ≡ 2 ^ w - 1 → s ≡ (x + y) % 2 ^ 64 → bit_and s top ≡ plus (2 ^ w) x y
masked_sum w x y s top h t e = wrapped_sum w x y s (bit_and s top) h e (rw t (and_mask s w))

pub wrapped_difference : (w x y s r : ℕ) → w ≤ 64 → (s + y) % 2 ^ 64 ≡ x → r ≡ s % 2 ^ w → r ≡ minus (2 ^ w) x y
wrapped_difference w x y s r h e f =
    f ∙ minus_only (2 ^ w) (pow_pos w) x y s (sym (reduced_twice w (s + y) h) ∙ ap (λ (n : ℕ). n % 2 ^ w) e)

-- the same, where the mask is the largest word
pub masked_difference : (w x y s top : ℕ) → w ≤ 64 → top ≡ 2 ^ w - 1 → (s + y) % 2 ^ 64 ≡ x → bit_and s top ≡ minus (2 ^ w) x y
masked_difference w x y s top h t e = wrapped_difference w x y s (bit_and s top) h e (rw t (and_mask s w))

pub none_too_large : (w v : ℕ) → w ≡ 64 → v < 2 ^ 64 → false ≡ leb (2 ^ w) v
none_too_large w v e h = rw e (sym (lt-leb (2 ^ 64) v h))

pub shifted_out : (w v : ℕ) → not (eqb (v / 2 ^ w) 0) ≡ leb (2 ^ w) v
shifted_out w v =
    dite (dec_lt v (2 ^ w))
    (λ (l : v < 2 ^ w). rw (div-eq_of_lt l, lt-leb (2 ^ w) v l))
    (λ (l : v < 2 ^ w → ⊥).
    let some : 1 ≤ v / 2 ^ w = (le-div_iff_mul-le (pow_pos w)).1 (omega arith) in
    rw (ne_eqb (v / 2 ^ w) 0 (λ (z : v / 2 ^ w ≡ 0). omega arith), le-leb (2 ^ w) v (omega arith)))
