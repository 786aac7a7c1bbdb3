-- Where a number is in a range; and ranges of one piece: what is in them, and that they are proper. Assumes nothing.
use Rattle.std.proofs.Common.{◌≡◌, ℕ, ◌+◌, ◌-◌, ◌<◌, ◌≤◌, Bool, true, false, leb, refl, arith, ltb-false, ltb-true, le-ltb, lt-ltb, le-leb, leb-true}
use Rattle.basis.proofs.Pick.{pick_case, and_left, and_right, or_true_right, or_case}
use Rattle.range.specs.declared.Range.{Range}
use Rattle.range.specs.Range.{span, point, full, is_two, has, Within, Proper}

ruleset tests = (arith, ltb-true, ltb-false, leb-true)

-- 0..242 and 248..255 have 0 and 250, and not 245
has_lower : has (span 248 242) 0 ≡ true
unfolding has is_two span
has_lower = refl

has_upper : has (span 248 242) 250 ≡ true
unfolding has is_two span
has_upper = refl

has_no_gap : has (span 248 242) 245 ≡ false
unfolding has is_two span
has_no_gap = refl

-- where a number is in a range
pub data Place (x : ℕ) (a : Range) : Type 0 where
  single : a.lo ≤ x → x ≤ a.hi → Place x a
  lower : a.hi < a.lo → x ≤ a.hi → Place x a
  upper : a.hi < a.lo → a.lo ≤ x → Place x a

pub placed : (a : Range) (x : ℕ) → Within x a → Place x a
unfolding has is_two
placed a x =
    pick_case (λ (t : Bool). t ≡ true → Place x a) (is_two a)
    (λ (s : is_two a ≡ true) e.
    or_case (leb x a.hi) (leb a.lo x) e
    (λ (l : leb x a.hi ≡ true). lower (omega tests) (omega tests))
    (λ (l : leb a.lo x ≡ true). upper (omega tests) (omega tests)))
    (λ (s : is_two a ≡ false) e.
    single
    (leb-true a.lo x (and_left (leb a.lo x) (leb x a.hi) e))
    (leb-true x a.hi (and_right (leb a.lo x) (leb x a.hi) e)))

pub within : (a : Range) (x : ℕ) → Place x a → Within x a
unfolding has is_two
within a x (single l m) = rw (le-ltb a.hi a.lo (omega arith), le-leb a.lo x l, le-leb x a.hi m)
within a x (lower two m) = rw (lt-ltb a.hi a.lo two, le-leb x a.hi m)
within a x (upper two l) = rw (lt-ltb a.hi a.lo two) (or_true_right (leb x a.hi) (leb a.lo x) (le-leb a.lo x l))

pub span_within : (k h x : ℕ) → k ≤ x → x ≤ h → Within x (span k h)
unfolding span
span_within k h x l m = within (span k h) x (single l m)

pub point_within : (k : ℕ) → Within k (point k)
unfolding point
point_within k = span_within k k k (omega arith) (omega arith)

pub full_within : (M x : ℕ) → x < M → Within x (full M)
unfolding full
full_within M x l = span_within 0 (M - 1) x (omega arith) (omega arith)

pub span_proper : (M k h : ℕ) → k ≤ h → h < M → Proper M (span k h)
unfolding span
span_proper M k h o l = record { low = omega arith; high = l; apart = λ (e : h + 1 ≡ k). omega arith }

pub point_proper : (M k : ℕ) → k < M → Proper M (point k)
unfolding point
point_proper M k l = span_proper M k k (omega arith) l

pub full_proper : (M : ℕ) → 0 < M → Proper M (full M)
unfolding full
full_proper M l = span_proper M 0 (M - 1) (omega arith) (omega arith)
