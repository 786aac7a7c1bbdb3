-- The sum of two ranges by its pieces, as the request words it, and the two ends that the code works out: the same. The union of all sums of pieces is one stretch of
-- the circle, so it is one piece or the two that a range may have, and no gap is ever filled. Assumes nothing.
use Rattle.std.proofs.Common.{◌≡◌, ℕ, ◌+◌, ◌-◌, ◌<◌, ◌≤◌, true, false, cond, leb, List, refl, ap, ◌∙◌, arith, leb-false, leb-true}
use Rattle.basis.proofs.Pick.{pick_case}
use Rattle.word.specs.Word.{plus, minus}
use Rattle.word.proofs.Words.{minus_below, plus_below}
use Rattle.range.specs.declared.Range.{Range}
use Rattle.pieces.specs.Pieces.{Piece, In, union, fewest, fill}
use Rattle.range.specs.Range.{span, full, is_two, pieces, of_pieces, sums, sum, Within, Proper}
use Rattle.pieces.proofs.Unions.{Filled, union_ordered, in_union, union_in, ordered_only}
use Rattle.range.proofs.Spans.{full_within, full_proper}
use Rattle.range.proofs.Circle.{size, ends, ends_size, ends_proper, sum_in_ends, Split, split, within_near}
use Rattle.range.proofs.Members.{pieces_ordered, pieces_below, within_in, in_within, sums_filled, in_sums, sums_split}

ruleset tests = (arith, leb-true, leb-false)

-- ---- a range and its pieces

-- in one or two pieces there is nothing to fill
few : (M : ℕ) (a : Range) → fewest (pieces M a) ≡ pieces M a
unfolding pieces fewest fill
few M a = pick_case (λ (ps : List Piece). fewest ps ≡ ps) (is_two a) (λ _. refl) (λ _. refl)

back : (M : ℕ) (a : Range) → of_pieces (pieces M a) ≡ a
unfolding pieces of_pieces span
back M a = pick_case (λ (ps : List Piece). of_pieces ps ≡ a) (is_two a) (λ _. refl) (λ _. refl)

-- a range with the numbers of some pieces is what the request makes of them
module _ (M : ℕ) (a : Range) (ps : List Piece) (proper : Proper M a) (filled : Filled ps)
    (into : (x : ℕ) → In x ps → In x (pieces M a)) (from : (x : ℕ) → In x (pieces M a) → In x ps) where
  pub union_is : union ps ≡ pieces M a
  union_is =
      ordered_only 0 0 (union ps) (pieces M a) (union_ordered ps filled) (pieces_ordered M a proper)
      (λ x h. into x (union_in x ps h))
      (λ x h. in_union x ps (from x h))

  pub fewest_is : fewest (union ps) ≡ pieces M a
  fewest_is = ap fewest union_is ∙ few M a

  pub range_is : of_pieces (fewest (union ps)) ≡ a
  range_is = ap of_pieces fewest_is ∙ back M a

-- ---- sums

-- from the sum of the lower ends to that of the upper ones, or all the way round
unfoldable pub stretch : ℕ → Range → Range → Range
stretch M a b = cond (leb (M - 1) (size M a + size M b)) (full M) (ends M a b)

module _ (M : ℕ) (pos : 0 < M) (a b : Range) (p : Proper M a) (q : Proper M b) where
  pub stretch_proper : Proper M (stretch M a b)
  unfolding stretch
  stretch_proper =
      pick_case (Proper M) (leb (M - 1) (size M a + size M b))
      (λ _. full_proper M pos)
      (λ (t : leb (M - 1) (size M a + size M b) ≡ false). ends_proper M pos a b p q (omega tests))

  pub stretch_has : (u v : ℕ) → u < M → v < M → Within u a → Within v b → Within (plus M u v) (stretch M a b)
  unfolding stretch
  stretch_has u v l m h k =
      pick_case (Within (plus M u v)) (leb (M - 1) (size M a + size M b))
      (λ _. full_within M (plus M u v) (plus_below M pos u v))
      (λ (t : leb (M - 1) (size M a + size M b) ≡ false). sum_in_ends M pos a b p q (omega tests) u v l m h k)

  stretch_near : (x : ℕ) → x < M → Within x (stretch M a b) → minus M x (plus M a.lo b.lo) ≤ size M a + size M b
  unfolding stretch span
  stretch_near x word =
      pick_case (λ (r : Range). Within x r → minus M x (plus M a.lo b.lo) ≤ size M a + size M b) (leb (M - 1) (size M a + size M b))
      (λ (t : leb (M - 1) (size M a + size M b) ≡ true) h. omega (tests, minus_below M pos x (plus M a.lo b.lo)))
      (λ (t : leb (M - 1) (size M a + size M b) ≡ false) h.
      let proper = ends_proper M pos a b p q (omega tests) in
      omega (arith, within_near M pos (ends M a b) proper.low proper.high x word h, ends_size M pos a b p q (omega tests)))

  -- a number of the stretch is a sum of numbers
  pub stretch_split : (x : ℕ) → x < M → Within x (stretch M a b) → Split M a b x
  stretch_split x word h = split M pos a b p q x word (stretch_near x word h)

  sums_into : (x : ℕ) → In x (sums M a b) → In x (pieces M (stretch M a b))
  sums_into x h =
      let found = sums_split M a b p q x h in
      let s = found.split in
      within_in M (stretch M a b) stretch_proper x found.word
      (rw s.total at (stretch_has s.left s.right s.left_word s.right_word s.left_in s.right_in))

  sums_from : (x : ℕ) → In x (pieces M (stretch M a b)) → In x (sums M a b)
  sums_from x h =
      let word = pieces_below M (stretch M a b) stretch_proper x h in
      let s = stretch_split x word (in_within M (stretch M a b) stretch_proper x h) in
      rw s.total at (in_sums M a b p q s.left s.right s.left_word s.right_word s.left_in s.right_in)

  pub sum_is : sum M a b ≡ stretch M a b
  unfolding sum
  sum_is = range_is M (stretch M a b) (sums M a b) stretch_proper (sums_filled M a b p q) sums_into sums_from

  -- the range has the pieces that the request gives, and none of their gaps was filled
  pub sum_unfilled : union (sums M a b) ≡ pieces M (sum M a b)
  sum_unfilled = rw sum_is (union_is M (stretch M a b) (sums M a b) stretch_proper (sums_filled M a b p q) sums_into sums_from)

  pub sum_pieces : fewest (union (sums M a b)) ≡ pieces M (sum M a b)
  sum_pieces = rw sum_is (fewest_is M (stretch M a b) (sums M a b) stretch_proper (sums_filled M a b p q) sums_into sums_from)
