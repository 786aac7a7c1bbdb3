-- The numbers of the sum of two pieces are the sums of their numbers, and no others. Assumes nothing.
use mathlib.Core.Path.{◌≡◌, refl, sym}
use mathlib.Core.Logic.{inl, inr, dite}
use mathlib.Core.Bool.{true, false}
use mathlib.Core.List.{List, [], ◌∷◌}
use Prim.Native.Nat.{ℕ, ◌+◌, ◌*◌, ◌-◌, ◌≤◌, ◌<◌}
use native.Mathlib.Decide.{dec_le}
use native.Mathlib.Omega.{arith}
use lib.Dec.{ltb, leb}
use borrow.Author.Tests.{ltb-true, ltb-false, leb-true, leb-false}
use Rattle.basis.proofs.Pick.{pick_case}
use Rattle.word.specs.Word.{plus}
use Rattle.word.proofs.Congruence.{is_mod}
use Rattle.pieces.specs.Pieces.{Piece, piece, Inside, In, sum_of}
use Rattle.pieces.proofs.Unions.{Filled, in_one, in_two}

ruleset tests = (arith, ltb-true, ltb-false, leb-true, leb-false)

-- a straddling sum has both pieces
straddling : sum_of 256 (piece 0 250) (piece 248 248) ≡ piece 0 242 ∷ piece 248 255 ∷ []
unfolding sum_of
straddling = refl

-- a whole number between the sums of the ends is a sum
record Whole (p q : Piece) (y : ℕ) : Type 0 where
  pub left : ℕ
  pub right : ℕ
  pub left_in : Inside left p
  pub right_in : Inside right q
  pub total : left + right ≡ y

whole : (p q : Piece) (y : ℕ) → p.lo ≤ p.hi → q.lo ≤ q.hi → p.lo + q.lo ≤ y → y ≤ p.hi + q.hi → Whole p q y
whole p q y o r l m =
    dite (dec_le y (p.lo + q.hi))
    (λ (k : y ≤ p.lo + q.hi).
    record { left = p.lo; right = y - p.lo; left_in = omega arith; right_in = omega arith; total = omega arith })
    (λ (k : y ≤ p.lo + q.hi → ⊥).
    record { left = y - q.hi; right = q.hi; left_in = omega arith; right_in = omega arith; total = omega arith })

module _ (M : ℕ) (p q : Piece) where
  pub sum_of_in : (u v : ℕ) → u < M → v < M → Inside u p → Inside v q → In (plus M u v) (sum_of M p q)
  unfolding plus sum_of
  sum_of_in u v l m h k =
      dite (dec_le M (u + v))
      (λ (over : M ≤ u + v).
      let e : u + v - M ≡ plus M u v = is_mod M 1 0 (u + v - M) (u + v) (omega arith) (omega arith) in
      pick_case (In (plus M u v)) (ltb (p.hi + q.hi) M)
      (λ (t : ltb (p.hi + q.hi) M ≡ true). absurd (omega tests))
      (λ _.
      pick_case (In (plus M u v)) (leb M (p.lo + q.lo))
      (λ (s : leb M (p.lo + q.lo) ≡ true). inl (omega tests))
      (λ (s : leb M (p.lo + q.lo) ≡ false). inl (omega tests))))
      (λ (under : M ≤ u + v → ⊥).
      let e : u + v ≡ plus M u v = is_mod M 0 0 (u + v) (u + v) (omega arith) refl in
      pick_case (In (plus M u v)) (ltb (p.hi + q.hi) M)
      (λ (t : ltb (p.hi + q.hi) M ≡ true). inl (omega tests))
      (λ _.
      pick_case (In (plus M u v)) (leb M (p.lo + q.lo))
      (λ (s : leb M (p.lo + q.lo) ≡ true). absurd (omega tests))
      (λ (s : leb M (p.lo + q.lo) ≡ false). inr (inl (omega tests)))))

  -- nothing else is in it
  pub record SumOf (x : ℕ) : Type 0 where
    pub word : x < M
    pub left : ℕ
    pub right : ℕ
    pub left_in : Inside left p
    pub right_in : Inside right q
    pub total : plus M left right ≡ x

  module _ (o : p.lo ≤ p.hi) (r : q.lo ≤ q.hi) where
    -- x is reached by whole sums, that many times round
    reached : (x times : ℕ) → x < M → p.lo + q.lo ≤ x + times * M → x + times * M ≤ p.hi + q.hi → SumOf x
    unfolding plus
    reached x times word l m =
        let s = whole p q (x + times * M) o r l m in
        let e = s.total in
        record {
          word = word;
          left = s.left;
          right = s.right;
          left_in = s.left_in;
          right_in = s.right_in;
          total = sym (is_mod M times 0 x (s.left + s.right) word (omega arith));
        }

    pub in_sum_of : p.hi < M → q.hi < M → (x : ℕ) → In x (sum_of M p q) → SumOf x
    unfolding sum_of
    in_sum_of l m x =
        pick_case (λ (ps : List Piece). In x ps → SumOf x) (ltb (p.hi + q.hi) M)
        (λ (t : ltb (p.hi + q.hi) M ≡ true) h.
        let u = in_one x (piece (p.lo + q.lo) (p.hi + q.hi)) h in
        reached x 0 (omega tests) (omega arith) (omega arith))
        (λ (t : ltb (p.hi + q.hi) M ≡ false).
        pick_case (λ (ps : List Piece). In x ps → SumOf x) (leb M (p.lo + q.lo))
        (λ (s : leb M (p.lo + q.lo) ≡ true) h.
        let u = in_one x (piece (p.lo + q.lo - M) (p.hi + q.hi - M)) h in
        reached x 1 (omega tests) (omega tests) (omega tests))
        (λ (s : leb M (p.lo + q.lo) ≡ false).
        in_two x (piece 0 (p.hi + q.hi - M)) (piece (p.lo + q.lo) (M - 1))
        (λ u. reached x 1 (omega tests) (omega tests) (omega tests))
        (λ u. reached x 0 (omega tests) (omega arith) (omega tests))))

    pub sum_of_filled : Filled (sum_of M p q)
    unfolding sum_of
    sum_of_filled =
        pick_case Filled (ltb (p.hi + q.hi) M)
        (λ _. (omega arith, tt))
        (λ (t : ltb (p.hi + q.hi) M ≡ false).
        pick_case Filled (leb M (p.lo + q.lo))
        (λ (s : leb M (p.lo + q.lo) ≡ true). (omega tests, tt))
        (λ (s : leb M (p.lo + q.lo) ≡ false). (omega arith, (omega tests, tt))))
