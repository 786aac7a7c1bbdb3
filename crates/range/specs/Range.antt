-- Ranges of words below M: document 01, "Ranges", and document 02, A5. A range is one piece, from lo to hi, or two: where hi is below lo, the lower piece is from 0
-- to hi, and the upper one from lo to the top of the word. No other two pieces ever come to stand in a range (`sum_pieces`, `negation_pieces` in the proofs).
-- Other crates know a range by these names and their laws alone.
use Rattle.std.specs.Prelude.{◌≡◌, ℕ, ◌+◌, ◌-◌, ◌<◌, Bool, true, cond, not, ◌&&◌, ◌||◌, List, [], ◌∷◌, nat_le, nat_lt}
use Rattle.range.specs.declared.Range.{Range}
use Rattle.pieces.specs.Pieces.{Piece, piece, of_each, sum_of, negation_of, union, fewest}

-- from lo to hi
unfoldable pub span : ℕ → ℕ → Range
span lo hi = record { lo = lo; hi = hi }

-- [k, k]
unfoldable pub point : ℕ → Range
point k = span k k

-- every word
unfoldable pub full : ℕ → Range
full M = span 0 (M - 1)

-- it has two pieces
unfoldable pub is_two : Range → Bool
is_two a = nat_lt a.hi a.lo

-- its pieces, lower first
unfoldable pub pieces : ℕ → Range → List Piece
pieces M a = cond (is_two a) (piece 0 a.hi ∷ piece a.lo (M - 1) ∷ []) (piece a.lo a.hi ∷ [])

-- the range of one piece, or of two that begin at 0 and end at the top
unfoldable pub of_pieces : List Piece → Range
of_pieces [] = point 0
of_pieces (p ∷ []) = span p.lo p.hi
of_pieces (p ∷ q ∷ rest) = span q.lo p.hi

-- the sums of every piece of a and every piece of b, as they come
unfoldable pub sums : ℕ → Range → Range → List Piece
sums M a b = of_each (λ p. of_each (sum_of M p) (pieces M b)) (pieces M a)

-- a + b: their union, in at most two pieces
unfoldable pub sum : ℕ → Range → Range → Range
sum M a b = of_pieces (fewest (union (sums M a b)))

-- the negations of every piece, as they come
unfoldable pub negations : ℕ → Range → List Piece
negations M a = of_each (negation_of M) (pieces M a)

-- the negation of a: their union, in at most two pieces
unfoldable pub negation : ℕ → Range → Range
negation M a = of_pieces (fewest (union (negations M a)))

-- it has x, a word: in its one piece, or in the lower or the upper of two
unfoldable pub has : Range → ℕ → Bool
has a x = cond (is_two a) (nat_le x a.hi || nat_le a.lo x) (nat_le a.lo x && nat_le x a.hi)

-- the same, as a statement
abbrev pub Within : ℕ → Range → Type 0
Within x a = has a x ≡ true

-- the ranges share no number: neither has the lower end of the other
unfoldable pub disjoint : Range → Range → Bool
disjoint a b = not (has a b.lo) && not (has b a.lo)

-- a range of words below M, and two pieces do not touch
pub record Proper (M : ℕ) (a : Range) : Type 0 where
  pub low : a.lo < M
  pub high : a.hi < M
  pub apart : a.hi + 1 ≡ a.lo → ⊥
