-- What other crates know of sums, negations and numbers that are shared. No statement here shows the ends of a range. Assumes nothing.
use Rattle.std.proofs.Common.{◌≡◌, ℕ, ◌<◌, ◌≤◌, true, false, not, ◌⊎◌, sym, ◌∙◌, inl, inr, ⊎_elim, true≢false, arith}
use mathlib.Core.Logic.{dite}
use native.Mathlib.Decide.{dec_le}
use borrow.Author.Tests.{not-true, not-false}
use Rattle.basis.proofs.Pick.{and_left, and_right, and_case}
use Rattle.word.specs.Word.{plus, minus}
use Rattle.range.specs.declared.Range.{Range}
use Rattle.range.specs.Range.{sum, negation, has, disjoint, Within, Proper}
use Rattle.range.proofs.Spans.{Place, single, lower, upper, placed, within}
use Rattle.range.proofs.Circle.{some_word, Split}
use Rattle.range.proofs.Sums.{stretch_proper, stretch_has, stretch_split, sum_is}
use Rattle.range.proofs.Negations.{mirrored_proper, mirrored_has, mirrored_from, negation_is}

-- ---- members are kept, and of a sum or a negation nothing is added

module _ (M : ℕ) (a b : Range) (p : Proper M a) (q : Proper M b) where
  pub sum_within : (x y : ℕ) → x < M → y < M → Within x a → Within y b → Within (plus M x y) (sum M a b)
  sum_within x y l m u v =
      let pos = some_word M a p in
      rw (sum_is M pos a b p q) (stretch_has M pos a b p q x y l m u v)

  -- a number of a sum is the sum of a number of each
  pub sum_exact : (x : ℕ) → x < M → Within x (sum M a b) → Split M a b x
  sum_exact x word u =
      let pos = some_word M a p in
      stretch_split M pos a b p q x word (rw (sum_is M pos a b p q) at u)

module _ (M : ℕ) (a : Range) (p : Proper M a) where
  pub negation_within : (x : ℕ) → x < M → Within x a → Within (minus M 0 x) (negation M a)
  negation_within x l u =
      let pos = some_word M a p in
      rw (negation_is M pos a p) (mirrored_has M pos a p x l u)

  -- a number of a negation is the negation of a number
  pub negation_exact : (x : ℕ) → x < M → Within x (negation M a) → Within (minus M 0 x) a
  negation_exact x word u =
      let pos = some_word M a p in
      mirrored_from M pos a p x word (rw (negation_is M pos a p) at u)

-- ---- ranges of words below M stay such

pub sum_proper : (M : ℕ) (a b : Range) → Proper M a → Proper M b → Proper M (sum M a b)
sum_proper M a b p q =
    let pos = some_word M a p in
    rw (sum_is M pos a b p q) (stretch_proper M pos a b p q)

pub negation_proper : (M : ℕ) (a : Range) → Proper M a → Proper M (negation M a)
negation_proper M a p =
    let pos = some_word M a p in
    rw (negation_is M pos a p) (mirrored_proper M pos a p)

-- ---- disjoint exactly when no number is shared

-- a range has its own lower end
pub start_within : (a : Range) → Within a.lo a
start_within a =
    within a a.lo
    (dite (dec_le a.lo a.hi)
    (λ (l : a.lo ≤ a.hi). single (omega arith) l)
    (λ (l : a.lo ≤ a.hi → ⊥). upper (omega arith) (omega arith)))

-- of two ranges that share a number one has the lower end of the other
shared_start : (a b : Range) (x : ℕ) → Place x a → Place x b → Within b.lo a ⊎ Within a.lo b
shared_start a b x u v =
    dite (dec_le a.lo b.lo)
    (λ (l : a.lo ≤ b.lo). from_below u v l)
    (λ (l : a.lo ≤ b.lo → ⊥). from_above u v (omega arith))
  where
    from_below : Place x a → Place x b → a.lo ≤ b.lo → Within b.lo a ⊎ Within a.lo b
    from_below (single k m) (single i n) l = inl (within a b.lo (single l (omega arith)))
    from_below (single k m) (lower two n) l = inr (within b a.lo (lower two (omega arith)))
    from_below (single k m) (upper two n) l = inl (within a b.lo (single l (omega arith)))
    from_below (lower two m) v l = inl (within a b.lo (upper two l))
    from_below (upper two m) v l = inl (within a b.lo (upper two l))

    from_above : Place x a → Place x b → b.lo ≤ a.lo → Within b.lo a ⊎ Within a.lo b
    from_above (single k m) (single i n) l = inr (within b a.lo (single l (omega arith)))
    from_above (lower two m) (single i n) l = inl (within a b.lo (lower two (omega arith)))
    from_above (upper two m) (single i n) l = inr (within b a.lo (single l (omega arith)))
    from_above u (lower two n) l = inr (within b a.lo (upper two l))
    from_above u (upper two n) l = inr (within b a.lo (upper two l))

pub disjoint_shares_none : (a b : Range) (x : ℕ) → disjoint a b ≡ true → Within x a → Within x b → ⊥
unfolding disjoint
disjoint_shares_none a b x d u v =
    let none = not-true (has a b.lo) (and_left (not (has a b.lo)) (not (has b a.lo)) d) in
    let also = not-true (has b a.lo) (and_right (not (has a b.lo)) (not (has b a.lo)) d) in
    ⊎_elim
    (λ (h : Within b.lo a). true≢false (sym h ∙ none))
    (λ (h : Within a.lo b). true≢false (sym h ∙ also))
    (shared_start a b x (placed a x u) (placed b x v))

-- a word that both have
pub record Common (M : ℕ) (a b : Range) : Type 0 where
  pub number : ℕ
  pub word : number < M
  pub left : Within number a
  pub right : Within number b

-- no claim is left out: ranges that are not found disjoint share a word
pub else_shared : (M : ℕ) (a b : Range) → Proper M a → Proper M b → disjoint a b ≡ false → Common M a b
unfolding disjoint
else_shared M a b p q d =
    and_case (not (has a b.lo)) (not (has b a.lo)) d
    (λ e. record { number = b.lo; word = q.low; left = not-false (has a b.lo) e; right = start_within b })
    (λ e. record { number = a.lo; word = p.low; left = start_within a; right = not-false (has b a.lo) e })
