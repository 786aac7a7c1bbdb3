-- The negation of a range by its pieces, as the request words it, and the two ends that the code works out: the same. Assumes nothing.
use Rattle.std.proofs.Common.{◌≡◌, ℕ, ◌+◌, ◌-◌, ◌<◌, true, false, cond, leb, arith, leb-false, leb-true}
use Rattle.basis.proofs.Pick.{pick_case}
use Rattle.word.specs.Word.{minus}
use Rattle.word.proofs.Words.{minus_below, minus_twice, minus_up, minus_over, differences, same_difference}
use Rattle.range.specs.declared.Range.{Range}
use Rattle.pieces.specs.Pieces.{In, negation_of, union, fewest}
use Rattle.range.specs.Range.{span, full, pieces, negations, negation, Within, Proper}
use Rattle.pieces.proofs.Unions.{Filled}
use Rattle.pieces.proofs.Each.{each_in, in_each, each_filled}
use Rattle.pieces.proofs.Negations.{negation_of_in, in_negation_of, negation_of_filled}
use Rattle.range.proofs.Spans.{full_within, full_proper}
use Rattle.range.proofs.Circle.{size, within_near, near_within}
use Rattle.range.proofs.Members.{pieces_filled, pieces_below, within_in, in_within}
use Rattle.range.proofs.Sums.{union_is, fewest_is, range_is}

ruleset tests = (arith, leb-true, leb-false)

-- from the negation of the upper end to that of the lower one, or all the way round
unfoldable pub mirrored : ℕ → Range → Range
mirrored M a = cond (leb (M - 1) (size M a)) (full M) (span (minus M 0 a.hi) (minus M 0 a.lo))

module _ (M : ℕ) (pos : 0 < M) (a : Range) (p : Proper M a) where
  abbrev turned : Range
  turned = span (minus M 0 a.hi) (minus M 0 a.lo)

  -- as far as before
  turned_size : minus M (minus M 0 a.lo) (minus M 0 a.hi) ≡ size M a
  turned_size = simp differences (same_difference M pos _ _ _ _ (omega arith))

  -- from the negation of the upper end to that of x it is as far as from x to the upper end
  turned_far : (x : ℕ) → minus M (minus M 0 x) (minus M 0 a.hi) ≡ minus M (size M a) (minus M x a.lo)
  turned_far x = simp differences (same_difference M pos _ _ _ _ (omega arith))

  module _ (round : size M a < M - 1) where
    turned_proper : Proper M turned
    unfolding span
    turned_proper =
        record {
          low = minus_below M pos 0 a.hi;
          high = minus_below M pos 0 a.lo;
          apart = λ (e : minus M 0 a.lo + 1 ≡ minus M 0 a.hi).
              omega (arith, turned_size, minus_over M pos (minus M 0 a.lo) (minus M 0 a.hi) (omega arith) (minus_below M pos 0 a.hi));
        }

    turned_has : (u : ℕ) → u < M → Within u a → Within (minus M 0 u) turned
    unfolding span
    turned_has u word h =
        let near = within_near M pos a p.low p.high u word h in
        let far : minus M (size M a) (minus M u a.lo) ≡ size M a - minus M u a.lo =
        minus_up M pos (size M a) (minus M u a.lo) near (minus_below M pos a.hi a.lo) in
        near_within M pos turned turned_proper.low turned_proper.high (minus M 0 u) (minus_below M pos 0 u) (omega (arith, turned_far u, far, turned_size))

  pub mirrored_proper : Proper M (mirrored M a)
  unfolding mirrored
  mirrored_proper =
      pick_case (Proper M) (leb (M - 1) (size M a))
      (λ _. full_proper M pos)
      (λ (t : leb (M - 1) (size M a) ≡ false). turned_proper (omega tests))

  pub mirrored_has : (u : ℕ) → u < M → Within u a → Within (minus M 0 u) (mirrored M a)
  unfolding mirrored
  mirrored_has u word h =
      pick_case (Within (minus M 0 u)) (leb (M - 1) (size M a))
      (λ _. full_within M (minus M 0 u) (minus_below M pos 0 u))
      (λ (t : leb (M - 1) (size M a) ≡ false). turned_has (omega tests) u word h)

  -- a number of the mirrored range is the negation of a number
  pub mirrored_from : (x : ℕ) → x < M → Within x (mirrored M a) → Within (minus M 0 x) a
  unfolding mirrored span
  mirrored_from x word =
      let y = minus M 0 x in
      let small = minus_below M pos 0 x in
      pick_case (λ (r : Range). Within x r → Within y a) (leb (M - 1) (size M a))
      (λ (t : leb (M - 1) (size M a) ≡ true) h. near_within M pos a p.low p.high y small (omega (tests, minus_below M pos y a.lo)))
      (λ (t : leb (M - 1) (size M a) ≡ false) h.
      let proper = turned_proper (omega tests) in
      let near = within_near M pos turned proper.low proper.high x word h in
      let far : minus M y a.lo ≡ minus M (size M a) (minus M x (minus M 0 a.hi)) =
      simp differences (same_difference M pos _ _ _ _ (omega arith)) in
      let up = minus_up M pos (size M a) (minus M x (minus M 0 a.hi)) (omega (arith, near, turned_size)) (minus_below M pos a.hi a.lo) in
      near_within M pos a p.low p.high y small (omega (arith, far, up)))

  negations_filled : Filled (negations M a)
  unfolding negations
  negations_filled =
      each_filled (negation_of M) (pieces M a) (pieces_filled M a p) (λ s o. negation_of_filled M pos s o)

  negations_into : (x : ℕ) → In x (negations M a) → In x (pieces M (mirrored M a))
  unfolding negations
  negations_into x =
      in_each (negation_of M) (In x (pieces M (mirrored M a))) x (pieces M a) (pieces_filled M a p)
      (λ s o part h.
      let top = pieces_below M a p s.hi (part s.hi (omega arith)) in
      let found = in_negation_of M pos s o top x h in
      let inside = in_within M a p (minus M 0 x) (part (minus M 0 x) found.negated) in
      within_in M (mirrored M a) mirrored_proper x found.word
      (rw (minus_twice M pos x found.word) at (mirrored_has (minus M 0 x) (minus_below M pos 0 x) inside)))

  negations_from : (x : ℕ) → In x (pieces M (mirrored M a)) → In x (negations M a)
  unfolding negations
  negations_from x h =
      let word = pieces_below M (mirrored M a) mirrored_proper x h in
      let inside = mirrored_from x word (in_within M (mirrored M a) mirrored_proper x h) in
      each_in (negation_of M) (minus M 0 x) x (pieces M a)
      (λ s k. rw (minus_twice M pos x word) at (negation_of_in M pos s (minus M 0 x) (minus_below M pos 0 x) k))
      (within_in M a p (minus M 0 x) (minus_below M pos 0 x) inside)

  pub negation_is : negation M a ≡ mirrored M a
  unfolding negation
  negation_is = range_is M (mirrored M a) (negations M a) mirrored_proper negations_filled negations_into negations_from

  pub negation_unfilled : union (negations M a) ≡ pieces M (negation M a)
  negation_unfilled = rw negation_is (union_is M (mirrored M a) (negations M a) mirrored_proper negations_filled negations_into negations_from)

  pub negation_pieces : fewest (union (negations M a)) ≡ pieces M (negation M a)
  negation_pieces = rw negation_is (fewest_is M (mirrored M a) (negations M a) mirrored_proper negations_filled negations_into negations_from)
