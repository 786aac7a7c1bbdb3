-- Laws of plus and minus. Every expression over them, and every remainder, is one difference of two whole sums:
-- `simp differences` brings an identity's sides to that form, and `same_difference` with `omega arith` closes it.
-- Assumes nothing.
use Rattle.std.proofs.Common.{◌≡◌, ℕ, suc, ◌+◌, ◌-◌, ◌/◌, ◌%◌, ◌<◌, ◌≤◌, sym, ap, ◌∙◌, mod-lt, mod-eq_of_lt, div-add-mod', arith}
use Rattle.word.specs.Word.{plus, minus}
use Rattle.word.proofs.Congruence.{cong, cancel}

module _ (M : ℕ) (pos : 0 < M) where
  pub plus_below : (x y : ℕ) → plus M x y < M
  unfolding plus
  plus_below x y = mod-lt (x + y) pos

  pub minus_below : (x y : ℕ) → minus M x y < M
  unfolding minus
  minus_below x y = mod-lt (x + (M - y % M)) pos

  -- what, with y added, is x again
  pub minus_added : (x y : ℕ) → (minus M x y + y) % M ≡ x % M
  unfolding minus
  minus_added x y =
      cong M ((x + (M - y % M)) / M) (suc (y / M)) ((x + (M - y % M)) % M + y) x
      (omega (arith, div-add-mod' (x + (M - y % M)) M, div-add-mod' y M, mod-lt y pos))

  -- and no other word is
  pub minus_only : (x y r : ℕ) → (r + y) % M ≡ x % M → r % M ≡ minus M x y
  minus_only x y r e =
      cancel M y r (minus M x y) (e ∙ sym (minus_added x y)) ∙ mod-eq_of_lt (minus_below x y)

  -- a may stand for the difference and b together
  trade : (a b u v : ℕ) → u + a ≡ v + (minus M a b + b) → u % M ≡ v % M
  trade a b u v e =
      cong M (a / M) ((minus M a b + b) / M) u v
      (omega (arith, div-add-mod' a M, div-add-mod' (minus M a b + b) M, minus_added a b))

  -- differences agree where their sums crosswise do
  pub crosswise : (a b c d : ℕ) → (a + d) % M ≡ (c + b) % M → minus M a b ≡ minus M c d
  crosswise a b c d e =
      sym (mod-eq_of_lt (minus_below a b)) ∙
      minus_only c d (minus M a b)
      (cancel M b (minus M a b + d) c (trade a b (minus M a b + d + b) (a + d) (omega arith) ∙ e))

  pub same_difference : (a b c d : ℕ) → a + d ≡ c + b → minus M a b ≡ minus M c d
  same_difference a b c d e = crosswise a b c d (ap (λ (n : ℕ). n % M) e)

  pub mod_is : (x : ℕ) → x % M ≡ minus M x 0
  mod_is x = minus_only x 0 x (ap (λ (n : ℕ). n % M) (omega arith))

  pub plus_is : (x y : ℕ) → plus M x y ≡ minus M (x + y) 0
  unfolding plus
  plus_is x y = mod_is (x + y)

  pub first_is : (a b c : ℕ) → minus M (minus M a b) c ≡ minus M a (b + c)
  first_is a b c = crosswise (minus M a b) c a (b + c) (trade a b _ _ (omega arith))

  pub first_left_is : (a b x c : ℕ) → minus M (minus M a b + x) c ≡ minus M (a + x) (b + c)
  first_left_is a b x c = crosswise (minus M a b + x) c (a + x) (b + c) (trade a b _ _ (omega arith))

  pub first_right_is : (a b x c : ℕ) → minus M (x + minus M a b) c ≡ minus M (x + a) (b + c)
  first_right_is a b x c = crosswise (x + minus M a b) c (x + a) (b + c) (trade a b _ _ (omega arith))

  pub second_is : (a b c : ℕ) → minus M a (minus M b c) ≡ minus M (a + c) b
  second_is a b c = sym (crosswise (a + c) b a (minus M b c) (trade b c _ _ (omega arith)))

  pub second_left_is : (a b x c : ℕ) → minus M a (minus M b c + x) ≡ minus M (a + c) (b + x)
  second_left_is a b x c = sym (crosswise (a + c) (b + x) a (minus M b c + x) (trade b c _ _ (omega arith)))

  pub second_right_is : (a b x c : ℕ) → minus M a (x + minus M b c) ≡ minus M (a + c) (x + b)
  second_right_is a b x c = sym (crosswise (a + c) (x + b) a (x + minus M b c) (trade b c _ _ (omega arith)))

  -- a word as a difference
  pub word_is : (x : ℕ) → x < M → x ≡ minus M x 0
  word_is x below = sym (mod-eq_of_lt below) ∙ mod_is x

pub ruleset differences = (mod_is, plus_is, first_is, first_left_is, first_right_is, second_is, second_left_is, second_right_is)

module _ (M : ℕ) (pos : 0 < M) where
  pub plus_comm : (x y : ℕ) → plus M x y ≡ plus M y x
  plus_comm x y = simp differences (same_difference M pos _ _ _ _ (omega arith))

  pub plus_assoc : (x y z : ℕ) → plus M (plus M x y) z ≡ plus M x (plus M y z)
  plus_assoc x y z = simp differences (same_difference M pos _ _ _ _ (omega arith))

  pub plus_zero : (x : ℕ) → x < M → plus M x 0 ≡ x
  plus_zero x below = simp differences (same_difference M pos _ _ _ _ (omega arith) ∙ sym (word_is M pos x below))

  pub minus_of_plus : (x y : ℕ) → x < M → minus M (plus M x y) y ≡ x
  minus_of_plus x y below = simp differences (same_difference M pos _ _ _ _ (omega arith) ∙ sym (word_is M pos x below))

  pub plus_of_minus : (x y : ℕ) → x < M → plus M (minus M x y) y ≡ x
  plus_of_minus x y below = simp differences (same_difference M pos _ _ _ _ (omega arith) ∙ sym (word_is M pos x below))

  pub minus_self : (x : ℕ) → minus M x x ≡ 0
  minus_self x = same_difference M pos x x 0 0 (omega arith) ∙ sym (word_is M pos 0 pos)

  pub minus_twice : (x : ℕ) → x < M → minus M 0 (minus M 0 x) ≡ x
  minus_twice x below = simp differences (same_difference M pos _ _ _ _ (omega arith) ∙ sym (word_is M pos x below))

  -- how far up it is from y to x
  pub minus_up : (x y : ℕ) → y ≤ x → x < M → minus M x y ≡ x - y
  minus_up x y l m = sym (minus_only M pos x y (x - y) (cong M 0 0 (x - y + y) x (omega arith))) ∙ mod-eq_of_lt (omega arith)

  pub minus_over : (x y : ℕ) → x < y → y < M → minus M x y ≡ x + M - y
  minus_over x y l m = sym (minus_only M pos x y (x + M - y) (cong M 0 1 (x + M - y + y) x (omega arith))) ∙ mod-eq_of_lt (omega arith)
