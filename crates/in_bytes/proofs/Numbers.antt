-- Numbers and their bytes: what the code reads and writes piece by piece, and that either gives back the other.
use Prim.Native.Nat.{ℕ, zero, suc, ◌+◌, ◌*◌, ◌/◌, ◌%◌, ◌^◌, ◌<◌, ◌≤◌}
use native.Mathlib.Nat.{add_assoc, add-zero, pow-succ', pow-le-pow_right, zero-add, suc-add, mul_left_comm, mul-le-mul, mod-eq_of_lt, add_comm}
use native.Mathlib.Numerals.{add-one, one-add}
use native.Mathlib.Omega.{arith}
use mathlib.Core.Path.{◌≡◌, refl, ap, ap₂}
use mathlib.Core.List.{List, [], ◌∷◌, ◌++◌}
use lib.ListN.{length, take, drop, set}
use lib.Seq.{sets, drop-cons}
use Rattle.std.specs.Int.Bits.{bit_or, or_shifted_r}
use Rattle.basis.proofs.Sets.{sets_then}
use Rattle.in_bytes.specs.Numbers.{byte, number, bytes, AllBytes, Read}

-- a byte, wherever it stands, is a word
pub byte_fits : (t : List ℕ) → AllBytes t → (i : ℕ) → byte t i < 2 ^ 64
byte_fits t all i = omega (arith, all i)

pub number_eight : (t : List ℕ) (i : ℕ) → number 8 t i ≡ number 4 t i + 4294967296 * number 4 t (i + 4)
unfolding number
number_eight t i = simp add_assoc (omega arith)

pub length_bytes : (n v : ℕ) → length (bytes n v) ≡ n
unfolding bytes
length_bytes zero v = refl
length_bytes (suc n) v = ap suc (length_bytes n (v / 256))

step : (i j : ℕ) → i + 1 + j ≡ i + suc j
step i j = omega arith

-- a number is where its bytes are
pub number_same : (n : ℕ) (s t : List ℕ) (i k : ℕ) → ((j : ℕ) → j < n → byte s (i + j) ≡ byte t (k + j)) → number n s i ≡ number n t k
unfolding number
number_same zero s t i k same = refl
number_same (suc n) s t i k same =
    ap₂ (λ (b m : ℕ). b % 256 + 256 * m) (simp add-zero at (same 0 (omega arith)))
    (number_same n s t (i + 1) (k + 1) (λ j h. rw (step i j, step k j) (same (suc j) (omega arith))))

pub number_bytes : (n v : ℕ) → v < 256 ^ n → number n (bytes n v) 0 ≡ v
unfolding number bytes
number_bytes zero v h = omega arith
number_bytes (suc n) v h =
    let back : number n (bytes n (v / 256)) 0 ≡ v / 256 = let top : v < 256 * 256 ^ n = rw pow-succ' at h in number_bytes n (v / 256) (omega arith) in
    let tail : number n (v % 256 ∷ bytes n (v / 256)) (0 + 1) ≡ number n (bytes n (v / 256)) 0 =
    number_same n (v % 256 ∷ bytes n (v / 256)) (bytes n (v / 256)) 1 0 (λ j h. rw (one-add, zero-add)) in
    omega arith

pub number_below : (n : ℕ) (t : List ℕ) (i : ℕ) → number n t i < 256 ^ n
unfolding number
number_below zero t i = omega arith
number_below (suc n) t i = rw pow-succ' (omega (arith, number_below n t (i + 1)))

-- ---- read from the lowest of n bytes up: what the first k of them give

number_ends : (k : ℕ) (t : List ℕ) (i : ℕ) → number (suc k) t i ≡ number k t i + byte t (i + k) % 256 * 256 ^ k
unfolding number
number_ends zero t i = let here : i + 0 ≡ i = omega arith in rw here (omega arith)
number_ends (suc k) t i =
    let next : i + 1 + k ≡ i + suc k = omega arith in
    let rest : number (suc k) t (i + 1) ≡ number k t (i + 1) + byte t (i + suc k) % 256 * 256 ^ k = rw (← next) (number_ends k t (i + 1)) in
    let weight : byte t (i + suc k) % 256 * 256 ^ suc k ≡ 256 * (byte t (i + suc k) % 256 * 256 ^ k) = rw pow-succ' (mul_left_comm (byte t (i + suc k) % 256) 256 (256 ^ k)) in
    omega (arith, rest, weight)

powers : (k : ℕ) → 2 ^ (8 * k) ≡ 256 ^ k
powers zero = refl
powers (suc k) =
    let more : 8 * suc k ≡ suc (suc (suc (suc (suc (suc (suc (suc (8 * k)))))))) = omega arith in
    rw more (simp pow-succ' (omega (arith, powers k)))

pub read_begins : (t : List ℕ) (i : ℕ) → 0 ≡ number 0 t i
unfolding number
read_begins t i = refl

module _ (n : ℕ) (t : List ℕ) (i k v b : ℕ) (few : n ≤ 8) (some : k < n) (before : v ≡ number k t i) (is : b ≡ byte t (i + k)) (small : b < 256) where
  whole : b * 2 ^ (8 * k) % 18446744073709551616 ≡ b * 2 ^ (8 * k)
  whole =
      let most : 256 ^ k ≤ 256 ^ 7 = pow-le-pow_right (omega arith) {i = k} {j = 7} (omega arith) in
      let low : b * 256 ^ k ≤ 255 * 256 ^ 7 = mul-le-mul {n₁ = b} {m₁ = 256 ^ k} {n₂ = 255} {m₂ = 256 ^ 7} (omega arith) most in
      rw (powers k) (mod-eq_of_lt (omega arith))

  pub read_goes_on : bit_or v (b * 2 ^ (8 * k) % 18446744073709551616) ≡ number (k + 1) t i
  read_goes_on =
      let behind : v < 2 ^ (8 * k) = rw (before, powers k) (number_below k t i) in
      let low : b % 256 ≡ b = omega arith in
      rw (whole, or_shifted_r b (8 * k) v behind, powers k, add-one, number_ends k t i, ← is, low, ← before) (add_comm (b * 256 ^ k) v)

pub read_ends : (n : ℕ) (t : List ℕ) (i k v : ℕ) → v ≡ number k t i → k ≡ n → Read (number n t i) (256 ^ n) v
read_ends n t i k v is all = let whole : v ≡ number n t i = rw (← all) is in record { is = whole; below = rw whole (number_below n t i) }

-- the bytes of the number that stands somewhere are those that stand there
pub bytes_number : (n : ℕ) (t : List ℕ) (i : ℕ) → AllBytes t → i + n ≤ length t → bytes n (number n t i) ≡ take n (drop i t)
unfolding number bytes
bytes_number zero t i all room = refl
bytes_number (suc n) t i all room =
    let low : (byte t i % 256 + 256 * number n t (i + 1)) % 256 ≡ byte t i = omega (arith, all i) in
    let high : (byte t i % 256 + 256 * number n t (i + 1)) / 256 ≡ number n t (i + 1) = omega arith in
    rw (low, high, bytes_number n t (i + 1) all (omega arith), drop-cons t i 0 (omega arith), add-one)

-- what is left of a number behind its n lowest bytes
unfoldable pub behind : ℕ → ℕ → ℕ
behind zero v = v
behind (suc n) v = behind n (v / 256)

bytes_parts : (m n v : ℕ) → bytes (m + n) v ≡ bytes m v ++ bytes n (behind m v)
unfolding bytes behind
bytes_parts zero n v = rw zero-add
bytes_parts (suc m) n v = rw suc-add (ap (λ (l : List ℕ). v % 256 ∷ l) (bytes_parts m n (v / 256)))

-- a number is written in two parts, the lower first
pub parts_put : (m n : ℕ) (l : List ℕ) (i v : ℕ) {p q : List ℕ} → p ≡ sets l i (bytes m v) → q ≡ sets p (i + m) (bytes n (behind m v)) → q ≡ sets l i (bytes (m + n) v)
parts_put m n l i v first second = rw (bytes_parts m n v) (sets_then l i m (bytes m v) (bytes n (behind m v)) first second (length_bytes m v))

-- a number is written from its lowest byte up
behind_next : (k v : ℕ) → behind (k + 1) v ≡ behind k v / 256
unfolding behind
behind_next zero v = refl
behind_next (suc k) v = rw suc-add (behind_next k (v / 256))

pub up_begins : (l : List ℕ) (i v : ℕ) → l ≡ sets l i (bytes 0 v)
unfolding bytes
up_begins l i v = refl

pub none_behind : (v : ℕ) → v ≡ behind 0 v
unfolding behind
none_behind v = refl

module _ (l m : List ℕ) (i k v rest : ℕ) (before : m ≡ sets l i (bytes k v)) (left : rest ≡ behind k v) where
  pub up_goes_on : set m (i + k) (rest % 256) ≡ sets l i (bytes (k + 1) v)
  unfolding bytes
  up_goes_on = rw (bytes_parts k 1 v, left) (sets_then l i k (bytes k v) (behind k v % 256 ∷ []) before refl (length_bytes k v))

  pub more_behind : rest / 256 ≡ behind (k + 1) v
  more_behind = rw (behind_next k v, left)
