-- What is made of every piece has the numbers of what is made of each. Assumes nothing.
use mathlib.Core.Logic.{inl, inr, ⊎_elim}
use mathlib.Core.List.{List, [], ◌∷◌, ◌++◌}
use Prim.Native.Nat.{ℕ, ◌+◌, ◌≤◌}
use native.Mathlib.Omega.{arith}
use Rattle.pieces.specs.Pieces.{Piece, Inside, In, of_each}
use Rattle.pieces.proofs.Unions.{Ordered, Filled, in_left, in_right, in_either}

module _ (f : Piece → List Piece) where
  pub each_in : (u x : ℕ) (ps : List Piece) → ((p : Piece) → Inside u p → In x (f p)) → In u ps → In x (of_each f ps)
  unfolding of_each
  each_in u x [] make h = h
  each_in u x (p ∷ ps) make (inl h) = in_left x (f p) (of_each f ps) (make p h)
  each_in u x (p ∷ ps) make (inr h) = in_right x (f p) (of_each f ps) (each_in u x ps make h)

  -- p is one of the pieces: it has a number, and its numbers are theirs
  module _ (C : Type 0) (x : ℕ) where
    pub in_each : (ps : List Piece) → Filled ps
        → ((p : Piece) → p.lo ≤ p.hi → ((u : ℕ) → Inside u p → In u ps) → In x (f p) → C)
        → In x (of_each f ps) → C
    unfolding of_each
    in_each [] fl take h = absurd h
    in_each (p ∷ ps) (b, fl) take h =
        ⊎_elim
        (λ (k : In x (f p)). take p b.order (λ u v. inl v) k)
        (λ (k : In x (of_each f ps)). in_each ps fl (λ q order part. take q order (λ u v. inr (part u v))) k)
        (in_either x (f p) (of_each f ps) h)

  filled_both : (ps qs : List Piece) → Filled ps → Filled qs → Filled (ps ++ qs)
  filled_both [] qs u v = v
  filled_both (p ∷ ps) qs (b, u) v = (b, filled_both ps qs u v)

  pub each_filled : (ps : List Piece) → Filled ps → ((p : Piece) → p.lo ≤ p.hi → Filled (f p)) → Filled (of_each f ps)
  unfolding of_each
  each_filled [] fl make = tt
  each_filled (p ∷ ps) (b, fl) make = filled_both (f p) (of_each f ps) (make p b.order) (each_filled ps fl make)

pub ordered_filled : (from : ℕ) (ps : List Piece) → Ordered from ps → Filled ps
ordered_filled from [] o = tt
ordered_filled from (p ∷ ps) (b, o) = (record { least = omega arith; order = b.order }, ordered_filled (p.hi + 2) ps o)
