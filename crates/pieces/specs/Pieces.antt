-- Pieces of words below M and their union: document 02, A5. The sums compared are whole numbers, never wrapped ones.
use Rattle.std.specs.Prelude.{ℕ, zero, suc, ◌+◌, ◌-◌, ◌≤◌, min, max, ◌⊎◌, Bool, cond, List, [], ◌∷◌, ◌++◌, length, leb, ltb, eqb}

-- all from lo to hi
pub record Piece : Type 0 where
  pub lo : ℕ
  pub hi : ℕ

-- [lo, hi]
abbrev pub piece : ℕ → ℕ → Piece
piece lo hi = record { lo = lo; hi = hi }

-- x is in the piece
pub record Inside (x : ℕ) (p : Piece) : Type 0 where
  pub low : p.lo ≤ x
  pub high : x ≤ p.hi

-- x is in one of the pieces
abbrev pub In : ℕ → List Piece → Type 0
In x [] = ⊥
In x (p ∷ ps) = Inside x p ⊎ In x ps

-- [l, m] + [l', m'], in two pieces where it straddles the top of the word
unfoldable pub sum_of : ℕ → Piece → Piece → List Piece
sum_of M p q =
    cond (ltb (p.hi + q.hi) M)
    (piece (p.lo + q.lo) (p.hi + q.hi) ∷ [])
    (cond (leb M (p.lo + q.lo))
    (piece (p.lo + q.lo - M) (p.hi + q.hi - M) ∷ [])
    (piece 0 (p.hi + q.hi - M) ∷ piece (p.lo + q.lo) (M - 1) ∷ []))

-- the negation of [l, m]
unfoldable pub negation_of : ℕ → Piece → List Piece
negation_of M p =
    cond (eqb p.hi 0)
    (piece 0 0 ∷ [])
    (cond (ltb 0 p.lo)
    (piece (M - p.hi) (M - p.lo) ∷ [])
    (piece 0 0 ∷ piece (M - p.hi) (M - 1) ∷ []))

-- what is made of every piece
unfoldable pub of_each : (Piece → List Piece) → List Piece → List Piece
of_each f [] = []
of_each f (p ∷ ps) = f p ++ of_each f ps

-- p lies below q and does not touch it
unfoldable pub below : Piece → Piece → Bool
below p q = ltb (p.hi + 1) q.lo

-- from the lower of the lower ends to the upper of the upper ones
unfoldable pub joined : Piece → Piece → Piece
joined p q = piece (min p.lo q.lo) (max p.hi q.hi)

-- a union with one piece more, which is joined with all that it touches or overlaps
unfoldable pub add : Piece → List Piece → List Piece
add p [] = p ∷ []
add p (q ∷ qs) =
    cond (below p q)
    (p ∷ q ∷ qs)
    (cond (below q p) (q ∷ add p qs) (add (joined p q) qs))

-- the union of pieces: lower first, none that touch
unfoldable pub union : List Piece → List Piece
union [] = []
union (p ∷ ps) = add p (union ps)

-- how many numbers lie between p and the next piece, q
unfoldable pub gap : Piece → Piece → ℕ
gap p q = q.lo - p.hi - 1

-- the smallest gap of a union
unfoldable pub smallest : List Piece → ℕ
smallest [] = 0
smallest (p ∷ []) = 0
smallest (p ∷ q ∷ []) = gap p q
smallest (p ∷ q ∷ r ∷ rest) = min (gap p q) (smallest (q ∷ r ∷ rest))

-- the lowest gap of g numbers is filled
unfoldable pub filled : ℕ → List Piece → List Piece
filled g [] = []
filled g (p ∷ []) = p ∷ []
filled g (p ∷ q ∷ rest) = cond (eqb (gap p q) g) (piece p.lo q.hi ∷ rest) (p ∷ filled g (q ∷ rest))

-- n times the smallest gap is filled
unfoldable pub fill : ℕ → List Piece → List Piece
fill zero ps = ps
fill (suc n) ps = fill n (filled (smallest ps) ps)

-- gaps are filled until two pieces remain
unfoldable pub fewest : List Piece → List Piece
fewest ps = fill (length ps - 2) ps
