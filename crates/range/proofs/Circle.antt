-- The words taken as a circle: a range is a stretch of it, from its lower end upwards, over the top if need be. A number is in it exactly when it is no further
-- from the lower end than the upper end is. Assumes nothing.
use Rattle.std.proofs.Common.{◌≡◌, ℕ, ◌+◌, ◌-◌, ◌<◌, ◌≤◌, sym, ◌∙◌, mod-eq_of_lt, arith}
use mathlib.Core.Logic.{dite}
use native.Mathlib.Decide.{dec_le}
use Rattle.word.specs.Word.{plus, minus}
use Rattle.word.proofs.Words.{minus_below, minus_up, minus_over, plus_below, differences, same_difference, word_is}
use Rattle.range.specs.declared.Range.{Range}
use Rattle.range.specs.Range.{span, Within, Proper}
use Rattle.range.proofs.Spans.{Place, single, lower, upper, placed, within}

pub some_word : (M : ℕ) (a : Range) → Proper M a → 0 < M
some_word M a p = let low = p.low in omega arith

-- how far up it is from the lower end to the upper one
abbrev pub size : ℕ → Range → ℕ
size M a = minus M a.hi a.lo

-- from the sum of the lower ends to the sum of the upper ones
abbrev pub ends : ℕ → Range → Range → Range
ends M a b = span (plus M a.lo b.lo) (plus M a.hi b.hi)

module _ (M : ℕ) (pos : 0 < M) where
  module _ (a : Range) (low : a.lo < M) (high : a.hi < M) (x : ℕ) (word : x < M) where
    place_near : Place x a → minus M x a.lo ≤ size M a
    place_near (single l m) = omega (arith, minus_up M pos x a.lo l word, minus_up M pos a.hi a.lo (omega arith) high)
    place_near (lower two m) = omega (arith, minus_over M pos x a.lo (omega arith) low, minus_over M pos a.hi a.lo two low)
    place_near (upper two l) = omega (arith, minus_up M pos x a.lo l word, minus_over M pos a.hi a.lo two low)

    pub within_near : Within x a → minus M x a.lo ≤ size M a
    within_near h = place_near (placed a x h)

    pub near_within : minus M x a.lo ≤ size M a → Within x a
    near_within near =
        within a x
        (dite (dec_le a.lo x)
        (λ (l : a.lo ≤ x).
        dite (dec_le a.lo a.hi)
        (λ (m : a.lo ≤ a.hi). single l (omega (arith, minus_up M pos x a.lo l word, minus_up M pos a.hi a.lo m high)))
        (λ (m : a.lo ≤ a.hi → ⊥). upper (omega arith) l))
        (λ (l : a.lo ≤ x → ⊥).
        dite (dec_le a.lo a.hi)
        (λ (m : a.lo ≤ a.hi).
        absurd (omega (arith, minus_over M pos x a.lo (omega arith) low, minus_up M pos a.hi a.lo m high)))
        (λ (m : a.lo ≤ a.hi → ⊥).
        lower (omega arith) (omega (arith, minus_over M pos x a.lo (omega arith) low, minus_over M pos a.hi a.lo (omega arith) low)))))

plus_whole : (M y z : ℕ) → y + z < M → plus M y z ≡ y + z
unfolding plus
plus_whole M y z l = mod-eq_of_lt l

-- x is a sum of a number of a and a number of b
pub record Split (M : ℕ) (a b : Range) (x : ℕ) : Type 0 where
  pub left : ℕ
  pub right : ℕ
  pub left_word : left < M
  pub right_word : right < M
  pub left_in : Within left a
  pub right_in : Within right b
  pub total : plus M left right ≡ x

module _ (M : ℕ) (pos : 0 < M) (a b : Range) (p : Proper M a) (q : Proper M b) where
  -- from the lower ends to any two numbers it is as far as to each of them together
  far : (u v : ℕ) → minus M (plus M u v) (plus M a.lo b.lo) ≡ plus M (minus M u a.lo) (minus M v b.lo)
  far u v = simp differences (same_difference M pos _ _ _ _ (omega arith))

  module _ (round : size M a + size M b < M - 1) where
    pub ends_size : minus M (plus M a.hi b.hi) (plus M a.lo b.lo) ≡ size M a + size M b
    ends_size = far a.hi b.hi ∙ plus_whole M _ _ (omega arith)

    pub ends_proper : Proper M (ends M a b)
    unfolding span
    ends_proper =
        record {
          low = plus_below M pos a.lo b.lo;
          high = plus_below M pos a.hi b.hi;
          apart = λ (e : plus M a.hi b.hi + 1 ≡ plus M a.lo b.lo).
              omega (arith, ends_size, minus_over M pos (plus M a.hi b.hi) (plus M a.lo b.lo) (omega arith) (plus_below M pos a.lo b.lo));
        }

    pub sum_in_ends : (u v : ℕ) → u < M → v < M → Within u a → Within v b → Within (plus M u v) (ends M a b)
    unfolding span
    sum_in_ends u v l m h k =
        let du : minus M u a.lo ≤ size M a = within_near M pos a p.low p.high u l h in
        let dv : minus M v b.lo ≤ size M b = within_near M pos b q.low q.high v m k in
        let d : plus M (minus M u a.lo) (minus M v b.lo) ≡ minus M u a.lo + minus M v b.lo = plus_whole M _ _ (omega arith) in
        near_within M pos (ends M a b) ends_proper.low ends_proper.high (plus M u v) (plus_below M pos u v) (omega (arith, far u v, d, du, dv, ends_size))

  -- every number no further from the lower ends than the two sizes together is a sum
  pub split : (x : ℕ) → x < M → minus M x (plus M a.lo b.lo) ≤ size M a + size M b → Split M a b x
  split x word near =
      let d = minus M x (plus M a.lo b.lo) in
      let below : d < M = minus_below M pos x (plus M a.lo b.lo) in
      dite (dec_le d (size M a))
      (λ (l : d ≤ size M a).
      let u = plus M a.lo d in
      let from : minus M u a.lo ≡ d =
      simp differences (same_difference M pos _ _ _ _ (omega arith)) in
      record {
        left = u;
        right = b.lo;
        left_word = plus_below M pos a.lo d;
        right_word = q.low;
        left_in = near_within M pos a p.low p.high u (plus_below M pos a.lo d) (omega (arith, from, l));
        right_in = near_within M pos b q.low q.high b.lo q.low (omega (arith, minus_up M pos b.lo b.lo (omega arith) q.low));
        total = simp differences (same_difference M pos _ _ _ _ (omega arith) ∙ sym (word_is M pos x word));
      })
      (λ (l : d ≤ size M a → ⊥).
      let j = minus M d (size M a) in
      let v = plus M b.lo j in
      let rest : j ≡ d - size M a = minus_up M pos d (size M a) (omega arith) below in
      let from : minus M v b.lo ≡ j =
      simp differences (same_difference M pos _ _ _ _ (omega arith)) in
      record {
        left = a.hi;
        right = v;
        left_word = p.high;
        right_word = plus_below M pos b.lo j;
        left_in = near_within M pos a p.low p.high a.hi p.high (omega arith);
        right_in = near_within M pos b q.low q.high v (plus_below M pos b.lo j) (omega (arith, from, rest, near));
        total = simp differences (same_difference M pos _ _ _ _ (omega arith) ∙ sym (word_is M pos x word));
      })
