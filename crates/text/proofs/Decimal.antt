-- Numbers in decimal: how they are made, what their bytes are, how long they are, and that they can be read back.
use Prim.Native.Nat.{ℕ, zero, suc, ◌+◌, ◌-◌, ◌*◌, ◌/◌, ◌%◌, ◌^◌, ◌≤◌, ◌<◌}
use native.Mathlib.Nat.{pow-suc}
use native.Mathlib.Decide.{dec_lt}
use native.Mathlib.Omega.{arith}
use mathlib.Core.Path.{◌≡◌, refl, sym, ap, ◌∙◌}
use mathlib.Core.Logic.{dite}
use mathlib.Core.List.{List, [], ◌∷◌, ◌++◌}
use lib.ListN.{length, length-append}
use borrow.Author.Tests.{lt-ltb, le-ltb}
use Rattle.text.specs.Text.{digits, decimal, read}

-- ---- how digits are made

module _ {κ} (P : List ℕ → Type κ) (d v : ℕ) where
  -- what holds of one digit, and of a front with a last digit, holds of the digits
  digits_case : (v < 10 → P ((48 + v) ∷ [])) → (10 ≤ v → P (digits d (v / 10) ++ ((48 + v % 10) ∷ []))) → P (digits (suc d) v)
  unfolding digits
  digits_case one more = dite (dec_lt v 10)
      (λ (h : v < 10). rw (lt-ltb v 10 h) (one h))
      (λ (h : v < 10 → ⊥). let g : 10 ≤ v = omega arith in rw (le-ltb v 10 g) (more g))

digits_one : (d v : ℕ) → v < 10 → digits d v ≡ (48 + v) ∷ []
unfolding digits
digits_one zero v h = let e : v % 10 ≡ v = omega arith in rw e
digits_one (suc d) v h = rw (lt-ltb v 10 h)

digits_more : (d v : ℕ) → 10 ≤ v → digits (suc d) v ≡ digits d (v / 10) ++ ((48 + v % 10) ∷ [])
unfolding digits
digits_more d v h = rw (le-ltb v 10 h)

-- the front of a number has a digit less
front_below : (d v : ℕ) → v < 10 ^ suc (suc d) → v / 10 < 10 ^ suc d
front_below d v h = let e : 10 ^ suc (suc d) ≡ 10 ^ suc d * 10 = pow-suc 10 (suc d) in omega arith

-- digits to spare change nothing
digits_enough : (d v : ℕ) → v < 10 ^ suc d → digits (suc d) v ≡ digits d v
digits_enough zero v h = digits_one 1 v h ∙ sym (digits_one 0 v h)
digits_enough (suc d) v h =
    digits_case (λ (t : List ℕ). t ≡ digits (suc d) v) (suc d) v
    (λ l. sym (digits_one (suc d) v l))
    (λ l. ap (λ (t : List ℕ). t ++ ((48 + v % 10) ∷ [])) (digits_enough d (v / 10) (front_below d v h)) ∙ sym (digits_more d v l))

pub decimal_one : (v : ℕ) → v < 10 → decimal v ≡ (48 + v) ∷ []
unfolding decimal
decimal_one v h = digits_one 19 v h

pub decimal_more : (v : ℕ) → v < 2 ^ 64 → 10 ≤ v → decimal v ≡ decimal (v / 10) ++ ((48 + v % 10) ∷ [])
unfolding decimal
decimal_more v h l = rw (digits_enough 18 (v / 10) (omega arith)) (digits_more 18 v l)

-- ---- how many there are

digits_some : (d v : ℕ) → 1 ≤ length (digits d v)
unfolding digits
digits_some zero v = omega arith
digits_some (suc d) v = digits_case (λ (t : List ℕ). 1 ≤ length t) d v (λ h. omega arith) (λ h. rw length-append (omega arith))

digits_few : (d v : ℕ) → length (digits d v) ≤ suc d
unfolding digits
digits_few zero v = omega arith
digits_few (suc d) v =
    digits_case (λ (t : List ℕ). length t ≤ suc (suc d)) d v
    (λ h. omega arith)
    (λ h. rw length-append (omega (arith, digits_few d (v / 10))))

-- a number below a power of ten has no more digits than that power has zeros
digits_within : (d n v : ℕ) → v < 10 ^ suc n → length (digits d v) ≤ suc n
unfolding digits
digits_within zero n v h = omega arith
digits_within (suc d) zero v h = rw (digits_one (suc d) v h) (omega arith)
digits_within (suc d) (suc n) v h =
    digits_case (λ (t : List ℕ). length t ≤ suc (suc n)) d v
    (λ l. omega arith)
    (λ l. rw length-append (omega (arith, digits_within d n (v / 10) (front_below n v h))))

pub decimal_some : (v : ℕ) → 1 ≤ length (decimal v)
unfolding decimal
decimal_some v = digits_some 19 v

pub decimal_few : (v : ℕ) → length (decimal v) ≤ 20
unfolding decimal
decimal_few v = digits_few 19 v

pub decimal_within : (n v : ℕ) → v < 10 ^ suc n → length (decimal v) ≤ suc n
unfolding decimal
decimal_within n v h = digits_within 19 n v h

-- ---- each is a digit

pub record Digit (c : ℕ) : Type 0 where
  pub low : 48 ≤ c
  pub high : c ≤ 57

abbrev pub AllDigits : List ℕ → Type 0
AllDigits [] = Unit {0}
AllDigits (c ∷ cs) = Digit c × AllDigits cs

all_append : (xs ys : List ℕ) → AllDigits xs → AllDigits ys → AllDigits (xs ++ ys)
all_append [] ys p q = q
all_append (x ∷ xs) ys p q = (p.0, all_append xs ys p.1 q)

digits_all : (d v : ℕ) → AllDigits (digits d v)
unfolding digits
digits_all zero v = (omega arith, tt)
digits_all (suc d) v =
    digits_case AllDigits d v
    (λ h. (omega arith, tt))
    (λ h. all_append (digits d (v / 10)) ((48 + v % 10) ∷ []) (digits_all d (v / 10)) (omega arith, tt))

pub decimal_all : (v : ℕ) → AllDigits (decimal v)
unfolding decimal
decimal_all v = digits_all 19 v

-- ---- reading back

pub read_append : (before : ℕ) (xs ys : List ℕ) → read before (xs ++ ys) ≡ read (read before xs) ys
unfolding read
read_append before [] ys = refl
read_append before (x ∷ xs) ys = read_append (before * 10 + (x - 48)) xs ys

digits_read : (d v : ℕ) → v < 10 ^ suc d → read 0 (digits d v) ≡ v
unfolding digits read
digits_read zero v h = omega arith
digits_read (suc d) v h =
    digits_case (λ (t : List ℕ). read 0 t ≡ v) d v
    (λ l. omega arith)
    (λ l. read_append 0 (digits d (v / 10)) ((48 + v % 10) ∷ []) ∙ rw (digits_read d (v / 10) (front_below d v h)) (omega arith))

pub decimal_read : (v : ℕ) → v < 2 ^ 64 → read 0 (decimal v) ≡ v
unfolding decimal
decimal_read v h = digits_read 19 v (omega arith)

-- two numbers with the same text are equal
pub decimal_only : (v w : ℕ) → v < 2 ^ 64 → w < 2 ^ 64 → decimal v ≡ decimal w → v ≡ w
decimal_only v w p q e = sym (decimal_read v p) ∙ ap (read 0) e ∙ decimal_read w q
