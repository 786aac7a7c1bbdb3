-- What the code leaves at each way out is what the definition says there: a law for each way. Assumes nothing.
use Rattle.std.proofs.Common.{◌≡◌, ℕ, ◌+◌, ◌-◌, ◌%◌, ◌^◌, ◌<◌, ◌≤◌, Bool, true, false, not, ltb, leb, sym, refl, ◌∙◌, ap₂, true≢false, mod-eq_of_lt, arith, pow_pos, le-leb, leb-true}
use borrow.Author.Tests.{lt-leb}
use Rattle.basis.proofs.Pick.{test_case}
use Rattle.word.specs.Word.{plus, minus}
use Rattle.word.proofs.Words.{minus_only, minus_below}
use Rattle.range.specs.declared.Range.{Range}
use Rattle.range.specs.Range.{span, point, full, is_two, sum, negation, has, disjoint, Proper}
use Rattle.range.proofs.Circle.{some_word, size, within_near, near_within}
use Rattle.range.proofs.Sums.{stretch, sum_is}
use Rattle.range.proofs.Negations.{mirrored, negation_is}

pub is_span : (lo hi : ℕ) → ◌≡◌ {A = Range} (record { lo = lo; hi = hi }) (span lo hi)
unfolding span
is_span lo hi = refl

pub is_point : (k : ℕ) → ◌≡◌ {A = Range} (record { lo = k; hi = k }) (point k)
unfolding point span
is_point k = refl

pub is_full : (M top : ℕ) → top ≡ M - 1 → ◌≡◌ {A = Range} (record { lo = 0; hi = top }) (full M)
unfolding full span
is_full M top e = rw e

pub is_two_lem : (a : Range) → ltb a.hi a.lo ≡ is_two a
unfolding is_two
is_two_lem a = refl

-- ---- sums and negations

pub size_small : (M : ℕ) (a : Range) (top x : ℕ) → top ≡ M - 1 → Proper M a → x ≡ size M a → x ≤ top
size_small M a top x e p d = let below = minus_below M (some_word M a p) a.hi a.lo in omega arith

module _ (M : ℕ) (a b : Range) (top x y : ℕ) (e : top ≡ M - 1) (p : Proper M a) (q : Proper M b) (dx : x ≡ size M a) (dy : y ≡ size M b) where
  pub sum_round : top - y ≤ x → ◌≡◌ {A = Range} (record { lo = 0; hi = top }) (sum M a b)
  unfolding stretch
  sum_round l =
      rw (sum_is M (some_word M a p) a b p q, le-leb (M - 1) (size M a + size M b) (omega (arith, size_small M b top y e q dy))) (is_full M top e)

  pub sum_ends : (lo hi : ℕ) → x < top - y → lo ≡ plus M a.lo b.lo → hi ≡ plus M a.hi b.hi
      → ◌≡◌ {A = Range} (record { lo = lo; hi = hi }) (sum M a b)
  unfolding stretch span
  sum_ends lo hi l f g =
      rw (sum_is M (some_word M a p) a b p q, lt-leb (M - 1) (size M a + size M b) (omega arith)) (ap₂ span f g)

module _ (M : ℕ) (a : Range) (top x : ℕ) (e : top ≡ M - 1) (p : Proper M a) (dx : x ≡ size M a) where
  pub negation_round : top ≤ x → ◌≡◌ {A = Range} (record { lo = 0; hi = top }) (negation M a)
  unfolding mirrored
  negation_round l =
      rw (negation_is M (some_word M a p) a p, le-leb (M - 1) (size M a) (omega arith)) (is_full M top e)

  pub negation_ends : (lo hi : ℕ) → x < top → lo ≡ minus M 0 a.hi → hi ≡ minus M 0 a.lo
      → ◌≡◌ {A = Range} (record { lo = lo; hi = hi }) (negation M a)
  unfolding mirrored span
  negation_ends lo hi l f g =
      rw (negation_is M (some_word M a p) a p, lt-leb (M - 1) (size M a) (omega arith)) (ap₂ span f g)

-- ---- numbers that are shared

-- of numbers of 64 bits, x is in the range exactly when it is no further up from lo than hi is, modulo 2^64
pub reaches : (lo hi x d e : ℕ) → lo < 2 ^ 64 → hi < 2 ^ 64 → x < 2 ^ 64 → d < 2 ^ 64 → e < 2 ^ 64
    → (d + lo) % 2 ^ 64 ≡ x → (e + lo) % 2 ^ 64 ≡ hi → leb d e ≡ has (span lo hi) x
unfolding span
reaches lo hi x d e l m n i j dx eh =
    let far : d ≡ minus (2 ^ 64) x lo = sym (mod-eq_of_lt i) ∙ minus_only (2 ^ 64) (pow_pos 64) x lo d (dx ∙ sym (mod-eq_of_lt n)) in
    let size : e ≡ minus (2 ^ 64) hi lo = sym (mod-eq_of_lt j) ∙ minus_only (2 ^ 64) (pow_pos 64) hi lo e (eh ∙ sym (mod-eq_of_lt m)) in
    test_case (has (span lo hi) x)
    (λ (h : has (span lo hi) x ≡ true).
    rw h (le-leb d e (omega (arith, far, size, within_near (2 ^ 64) (pow_pos 64) (span lo hi) l m x n h))))
    (λ (h : has (span lo hi) x ≡ false).
    rw h
    (test_case (leb d e)
    (λ (k : leb d e ≡ true).
    absurd (true≢false
    (sym (near_within (2 ^ 64) (pow_pos 64) (span lo hi) l m x n (omega (arith, far, size, leb-true d e k))) ∙ h)))
    (λ (k : leb d e ≡ false). k)))

module _ (a b : Range) {s : Bool} (first : s ≡ has (span a.lo a.hi) b.lo) where
  pub start_shared : s ≡ true → false ≡ disjoint a b
  unfolding disjoint span
  start_shared e = rw (← first, e)

  pub start_apart : {t : Bool} → s ≡ false → t ≡ has (span b.lo b.hi) a.lo → not t ≡ disjoint a b
  unfolding disjoint span
  start_apart e second = rw (← first, e, ← second)
