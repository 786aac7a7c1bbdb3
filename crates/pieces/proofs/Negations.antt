-- The numbers of the negation of a piece are the negations of its numbers, and no others. Assumes nothing.
use mathlib.Core.Path.{◌≡◌, refl, ◌∙◌}
use mathlib.Core.Logic.{inl, inr, dite}
use mathlib.Core.Bool.{true, false}
use mathlib.Core.List.{List, [], ◌∷◌}
use Prim.Native.Nat.{ℕ, ◌+◌, ◌-◌, ◌≤◌, ◌<◌}
use native.Mathlib.Decide.{dec_le}
use native.Mathlib.Omega.{arith}
use lib.Dec.{ltb, eqb}
use borrow.Author.Tests.{ltb-true, ltb-false, eqb-true, eqb-false}
use Rattle.basis.proofs.Pick.{pick_case}
use Rattle.word.specs.Word.{minus}
use Rattle.word.proofs.Words.{minus_up, minus_over}
use Rattle.pieces.specs.Pieces.{Piece, piece, Inside, In, negation_of}
use Rattle.pieces.proofs.Unions.{Filled, in_one, in_two}

ruleset tests = (arith, ltb-true, ltb-false, eqb-true, eqb-false)

-- the negation of a piece from 0 has both pieces
from_zero : negation_of 256 (piece 0 5) ≡ piece 0 0 ∷ piece 251 255 ∷ []
unfolding negation_of
from_zero = refl

module _ (M : ℕ) (pos : 0 < M) where
  module _ (p : Piece) where
    pub negation_of_in : (u : ℕ) → u < M → Inside u p → In (minus M 0 u) (negation_of M p)
    unfolding negation_of
    negation_of_in u word h =
        dite (dec_le u 0)
        (λ (z : u ≤ 0).
        let e : minus M 0 u ≡ 0 = minus_up M pos 0 u z pos ∙ omega arith in
        pick_case (In (minus M 0 u)) (eqb p.hi 0)
        (λ _. inl (omega arith))
        (λ _.
        pick_case (In (minus M 0 u)) (ltb 0 p.lo)
        (λ (t : ltb 0 p.lo ≡ true). absurd (omega tests))
        (λ _. inl (omega arith))))
        (λ (z : u ≤ 0 → ⊥).
        let e : minus M 0 u ≡ 0 + M - u = minus_over M pos 0 u (omega arith) word in
        pick_case (In (minus M 0 u)) (eqb p.hi 0)
        (λ (t : eqb p.hi 0 ≡ true). absurd (omega tests))
        (λ _.
        pick_case (In (minus M 0 u)) (ltb 0 p.lo)
        (λ _. inl (omega arith))
        (λ (t : ltb 0 p.lo ≡ false). inr (inl (omega tests)))))

    -- x is the negation of a number of p
    pub record NegatedOf (x : ℕ) : Type 0 where
      pub word : x < M
      pub negated : Inside (minus M 0 x) p

    zero_negated : (x : ℕ) → x ≤ 0 → p.lo ≤ 0 → NegatedOf x
    zero_negated x z l =
        let e : minus M 0 x ≡ 0 - x = minus_up M pos 0 x z pos in
        record { word = omega arith; negated = omega arith }

    above_negated : (x : ℕ) → 0 < x → x < M → M - p.hi ≤ x → x + p.lo ≤ M → NegatedOf x
    above_negated x l word m n =
        let e : minus M 0 x ≡ 0 + M - x = minus_over M pos 0 x l word in
        record { word = word; negated = omega arith }

    module _ (order : p.lo ≤ p.hi) where
      pub in_negation_of : p.hi < M → (x : ℕ) → In x (negation_of M p) → NegatedOf x
      unfolding negation_of
      in_negation_of top x =
          pick_case (λ (ps : List Piece). In x ps → NegatedOf x) (eqb p.hi 0)
          (λ (t : eqb p.hi 0 ≡ true) h. zero_negated x (in_one x (piece 0 0) h).high (omega tests))
          (λ (t : eqb p.hi 0 ≡ false).
          pick_case (λ (ps : List Piece). In x ps → NegatedOf x) (ltb 0 p.lo)
          (λ (s : ltb 0 p.lo ≡ true) h.
          let u = in_one x (piece (M - p.hi) (M - p.lo)) h in
          above_negated x (omega tests) (omega tests) (omega arith) (omega tests))
          (λ (s : ltb 0 p.lo ≡ false).
          in_two x (piece 0 0) (piece (M - p.hi) (M - 1))
          (λ u. zero_negated x u.high (omega tests))
          (λ u. above_negated x (omega tests) (omega tests) (omega arith) (omega tests))))

      pub negation_of_filled : Filled (negation_of M p)
      unfolding negation_of
      negation_of_filled =
          pick_case Filled (eqb p.hi 0)
          (λ _. (omega arith, tt))
          (λ (t : eqb p.hi 0 ≡ false).
          pick_case Filled (ltb 0 p.lo)
          (λ _. (omega arith, tt))
          (λ _. (omega arith, (omega tests, tt))))
