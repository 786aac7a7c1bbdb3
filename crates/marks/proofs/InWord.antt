-- The bits of one word: which are set, in a word with one bit more, and how many. Assumes nothing.
use Prim.Native.Nat.{ℕ, zero, suc, ◌+◌, ◌-◌, ◌/◌, ◌%◌, ◌^◌, ◌<◌}
use native.Mathlib.Nat.{add_comm, mod-lt, div-eq_of_lt, mul-mod_left, one-mul, pow-suc}
use native.Mathlib.Numerals.{add-one}
use native.Mathlib.Decide.{dec_lt}
use native.Mathlib.Omega.{arith}
use mathlib.Core.Path.{◌≡◌, refl, ap, ap₂, sym, ◌∙◌}
use mathlib.Core.Bool.{true, false, cond, ◌||◌}
use mathlib.Core.Logic.{dite}
use lib.Bits.{bit_or, or_shr, or_mod, or_zero_l, or_zero_r, or_self}
use lib.Count.{ones, ones_in, ones_cat}
use lib.Dec.{eqb}
use lib.Pow.{pow_pos, pow-lt, pow-add, shl-shr, mod-pow-add, ones_split, ones_lt, high, low}
use Rattle.basis.specs.Count.{count_where}
use Rattle.marks.specs.Marks.{is_one}

or_of_bits : (p q : ℕ) → p < 2 → q < 2 → eqb (bit_or p q) 1 ≡ (eqb p 1 || eqb q 1)
or_of_bits zero q h k = ap (λ (n : ℕ). eqb n 1) (or_zero_l q)
or_of_bits (suc zero) zero h k = ap (λ (n : ℕ). eqb n 1) (or_zero_r 1)
or_of_bits (suc zero) (suc zero) h k = ap (λ (n : ℕ). eqb n 1) (or_self 1)
or_of_bits (suc zero) (suc (suc q)) h k = absurd (omega arith)
or_of_bits (suc (suc p)) q h k = absurd (omega arith)

-- a bit of two words taken together
pub one_or : (a b k : ℕ) → is_one (bit_or a b) k ≡ (is_one a k || is_one b k)
unfolding is_one
one_or a b k =
    ap (λ (n : ℕ). eqb (n % 2) 1) (or_shr a b k) ∙
    ap (λ (n : ℕ). eqb n 1) (or_mod (a / 2 ^ k) (b / 2 ^ k) 1) ∙
    or_of_bits (a / 2 ^ k % 2) (b / 2 ^ k % 2) (mod-lt (a / 2 ^ k) (pow_pos 1)) (mod-lt (b / 2 ^ k) (pow_pos 1))

pub none_of_zero : (k : ℕ) → is_one 0 k ≡ false
unfolding is_one
none_of_zero k = ap (λ (n : ℕ). eqb (n % 2) 1) (div-eq_of_lt (pow_pos k))

-- of a power of two one bit is set
pub power_here : (k : ℕ) → is_one (2 ^ k) k ≡ true
unfolding is_one
power_here k = ap (λ (n : ℕ). eqb (n / 2 ^ k % 2) 1) (sym (one-mul (2 ^ k))) ∙ ap (λ (n : ℕ). eqb (n % 2) 1) (shl-shr 1 k)

higher : (m k : ℕ) → is_one (2 ^ (suc m + k)) k ≡ false
unfolding is_one
higher m k =
    ap (λ (n : ℕ). eqb (n / 2 ^ k % 2) 1) (pow-add 2 (suc m) k) ∙
    ap (λ (n : ℕ). eqb (n % 2) 1) (shl-shr (2 ^ suc m) k ∙ pow-suc 2 m) ∙
    ap (λ (n : ℕ). eqb n 1) (mul-mod_left (2 ^ m) 2)

pub power_there : (j k : ℕ) → (j ≡ k → ⊥) → is_one (2 ^ j) k ≡ false
unfolding is_one
power_there j k other =
    dite (dec_lt j k)
    (λ (l : j < k). ap (λ (n : ℕ). eqb (n % 2) 1) (div-eq_of_lt (pow-lt l)))
    (λ (l : j < k → ⊥).
    let above : j ≡ suc (j - k - 1) + k = omega arith in
    ap (λ (n : ℕ). is_one (2 ^ n) k) above ∙ higher (j - k - 1) k)

-- of the largest word of j bits every bit is set
odd : (j : ℕ) → (2 ^ suc j - 1) % 2 ≡ 1
odd j =
    ap (λ (n : ℕ). (2 ^ n - 1) % 2) (sym (add-one j)) ∙ ap (λ (n : ℕ). n % 2) (ones_split j 1) ∙
    low (2 ^ j - 1) 1 (ones_lt 1)

pub all_ones : (j k : ℕ) → is_one (2 ^ (suc j + k) - 1) k ≡ true
unfolding is_one
all_ones j k =
    ap (λ (n : ℕ). eqb (n / 2 ^ k % 2) 1) (ones_split (suc j) k) ∙
    ap (λ (n : ℕ). eqb (n % 2) 1) (high (2 ^ suc j - 1) k (ones_lt k)) ∙
    ap (λ (n : ℕ). eqb n 1) (odd j)

one_bit : (b : ℕ) → b < 2 → ones b ≡ cond (eqb b 1) 1 0
unfolding ones ones_in
one_bit zero h = refl
one_bit (suc zero) h = refl
one_bit (suc (suc b)) h = absurd (omega arith)

none : ones 0 ≡ 0
unfolding ones ones_in
none = refl

bit : (word b : ℕ) → ones (word / 2 ^ b % 2) ≡ cond (is_one word b) 1 0
unfolding is_one
bit word b = one_bit (word / 2 ^ b % 2) (mod-lt (word / 2 ^ b) (pow_pos 1))

-- the ones among the lowest k bits
pub ones_counted : (word k : ℕ) → ones (word % 2 ^ k) ≡ count_where (is_one word) k
unfolding count_where
ones_counted word zero =
    let low : word % 2 ^ 0 < 1 = mod-lt word (pow_pos 0) in
    let nothing : word % 2 ^ 0 ≡ 0 = omega arith in
    ap ones nothing ∙ none
ones_counted word (suc k) =
    ap (λ (j : ℕ). ones (word % 2 ^ j)) (sym (add-one k) ∙ add_comm k 1) ∙
    ap ones (mod-pow-add word 1 k) ∙
    ones_cat k (word / 2 ^ k % 2) (word % 2 ^ k) (mod-lt word (pow_pos k)) ∙
    add_comm (ones (word / 2 ^ k % 2)) (ones (word % 2 ^ k)) ∙
    ap₂ (λ (m n : ℕ). m + n) (ones_counted word k) (bit word k)
