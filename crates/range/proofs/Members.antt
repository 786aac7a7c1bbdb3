-- The numbers of a range are those of its pieces, and the numbers of all sums of pieces are the sums of their numbers. Assumes nothing.
use Rattle.std.proofs.Common.{◌≡◌, ℕ, ◌-◌, ◌<◌, true, false, List, inl, inr, arith, ltb-false, ltb-true}
use Rattle.basis.proofs.Pick.{pick_case}
use Rattle.word.specs.Word.{plus}
use Rattle.range.specs.declared.Range.{Range}
use Rattle.pieces.specs.Pieces.{Piece, piece, In, of_each, sum_of}
use Rattle.range.specs.Range.{is_two, pieces, sums, Within, Proper}
use Rattle.pieces.proofs.Unions.{Ordered, Filled, in_one, in_two}
use Rattle.pieces.proofs.Each.{each_in, in_each, each_filled, ordered_filled}
use Rattle.pieces.proofs.Sums.{sum_of_in, in_sum_of, sum_of_filled}
use Rattle.range.proofs.Spans.{Place, single, lower, upper, placed, within}
use Rattle.range.proofs.Circle.{Split}

ruleset tests = (arith, ltb-true, ltb-false)

-- ---- of a range

module _ (M : ℕ) (a : Range) (proper : Proper M a) where
  -- the pieces are in order and do not touch
  pub pieces_ordered : Ordered 0 (pieces M a)
  unfolding pieces is_two
  pieces_ordered =
      let low = proper.low in
      let apart = proper.apart in
      pick_case (Ordered 0) (is_two a)
      (λ (t : is_two a ≡ true). (omega arith, (omega tests, tt)))
      (λ (t : is_two a ≡ false). (omega tests, tt))

  pub pieces_filled : Filled (pieces M a)
  pieces_filled = ordered_filled 0 (pieces M a) pieces_ordered

  -- and below M
  pub pieces_below : (x : ℕ) → In x (pieces M a) → x < M
  unfolding pieces is_two
  pieces_below x =
      let low = proper.low in
      let high = proper.high in
      pick_case (λ (ps : List Piece). In x ps → x < M) (is_two a)
      (λ _. in_two x (piece 0 a.hi) (piece a.lo (M - 1)) (λ u. omega arith) (λ u. omega arith))
      (λ _ h. let u = in_one x (piece a.lo a.hi) h in omega arith)

  place_in : (x : ℕ) → x < M → Place x a → In x (pieces M a)
  unfolding pieces is_two
  place_in x word (single l m) =
      pick_case (In x) (is_two a)
      (λ (t : is_two a ≡ true). absurd (omega tests))
      (λ (t : is_two a ≡ false). inl (omega arith))
  place_in x word (lower two m) =
      pick_case (In x) (is_two a)
      (λ (t : is_two a ≡ true). inl (omega arith))
      (λ (t : is_two a ≡ false). absurd (omega tests))
  place_in x word (upper two l) =
      pick_case (In x) (is_two a)
      (λ (t : is_two a ≡ true). inr (inl (omega arith)))
      (λ (t : is_two a ≡ false). absurd (omega tests))

  pub within_in : (x : ℕ) → x < M → Within x a → In x (pieces M a)
  within_in x word h = place_in x word (placed a x h)

  pub in_within : (x : ℕ) → In x (pieces M a) → Within x a
  unfolding pieces is_two
  in_within x =
      pick_case (λ (ps : List Piece). In x ps → Within x a) (is_two a)
      (λ (t : is_two a ≡ true).
      in_two x (piece 0 a.hi) (piece a.lo (M - 1))
      (λ u. within a x (lower (omega tests) u.high))
      (λ u. within a x (upper (omega tests) u.low)))
      (λ _ h. let u = in_one x (piece a.lo a.hi) h in within a x (single u.low u.high))

-- ---- of all sums of pieces

module _ (M : ℕ) (a b : Range) (p : Proper M a) (q : Proper M b) where
  pub sums_filled : Filled (sums M a b)
  unfolding sums
  sums_filled =
      each_filled (λ s. of_each (sum_of M s) (pieces M b)) (pieces M a) (pieces_filled M a p)
      (λ s o. each_filled (sum_of M s) (pieces M b) (pieces_filled M b q) (λ t r. sum_of_filled M s t o r))

  pub in_sums : (u v : ℕ) → u < M → v < M → Within u a → Within v b → In (plus M u v) (sums M a b)
  unfolding sums
  in_sums u v l m h k =
      each_in (λ s. of_each (sum_of M s) (pieces M b)) u (plus M u v) (pieces M a)
      (λ s su. each_in (sum_of M s) v (plus M u v) (pieces M b) (λ t tv. sum_of_in M s t u v l m su tv) (within_in M b q v m k))
      (within_in M a p u l h)

  pub record Summed (x : ℕ) : Type 0 where
    pub word : x < M
    pub split : Split M a b x

  pub sums_split : (x : ℕ) → In x (sums M a b) → Summed x
  unfolding sums
  sums_split x =
      in_each (λ s. of_each (sum_of M s) (pieces M b)) (Summed x) x (pieces M a) (pieces_filled M a p)
      (λ s o part. in_each (sum_of M s) (Summed x) x (pieces M b) (pieces_filled M b q)
      (λ t r also h.
      let top = pieces_below M a p s.hi (part s.hi (omega arith)) in
      let end = pieces_below M b q t.hi (also t.hi (omega arith)) in
      let found = in_sum_of M s t o r top end x h in
      let left = part found.left found.left_in in
      let right = also found.right found.right_in in
      record {
        word = found.word;
        split =
            record {
              left = found.left;
              right = found.right;
              left_word = pieces_below M a p found.left left;
              right_word = pieces_below M b q found.right right;
              left_in = in_within M a p found.left left;
              right_in = in_within M b q found.right right;
              total = found.total;
            };
      }))
