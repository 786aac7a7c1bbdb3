-- Why a walk passes a store, finds its element, or stays: document 02, A1.
use Rattle.std.specs.Prelude.{ℕ, cond, List, [], ◌∷◌, eqb}
use Rattle.range.specs.declared.Range.{Range}
use Rattle.range.specs.Range.{disjoint}
use Rattle.term.specs.declared.Relation.{Relation}
use Rattle.term.specs.declared.Relation.TheVariants.{Same, Apart, Unknown}
use Rattle.term.specs.declared.Reason.{Reason}
use Rattle.term.specs.declared.Reason.TheVariants.{SamePlace, Offsets, Separate, Undecided}
use Rattle.term.specs.declared.Met.{Met}
use Rattle.term.specs.Term.{Term, const, var, shift, sum, diff, neg, read, fresh, write}
use Rattle.term.specs.Base.{base, offset, same_base}
use Rattle.term.specs.Walk.{Walk, found, passed, undecided, ended}

-- why of word rows x and y, the index of a store and the index sought, with g the ranges of the rows. A shared base is named before ranges
unfoldable pub reason : (ℕ → Term) → (ℕ → Range) → ℕ → ℕ → Reason
reason f g x y =
    cond (same_base (base f x) (base f y))
    (cond (eqb (offset f x) (offset f y)) SamePlace (Offsets (offset f x) (offset f y)))
    (cond (disjoint (g x) (g y)) (Separate (record { store = g x; read = g y })) Undecided)

-- what is known by a reason
unfoldable pub known_by : Reason → Relation
known_by SamePlace = Same
known_by (Offsets p q) = Apart
known_by (Separate ranges) = Apart
known_by Undecided = Unknown

-- the index row of a store. (Of a row that is no store none is asked for.)
unfoldable pub index_of : Term → ℕ
index_of (const k) = 0
index_of (var name k h) = 0
index_of (shift a k) = 0
index_of (sum a b k) = 0
index_of (diff a b k) = 0
index_of (neg a k) = 0
index_of (read a b) = 0
index_of fresh = 0
index_of (write a b c) = b

-- for the index row i, over the result rows f and their ranges g
module _ (f : ℕ → Term) (g : ℕ → Range) (i : ℕ) where
  -- the store m, as a walk meets it
  unfoldable pub meets : ℕ → Met
  meets m = record { store = m; index = index_of (f m); why = reason f g (index_of (f m)) i }

  -- the stores that a walk compared, nearest first
  unfoldable pub met : Walk → List Met
  met (found m c) = meets m ∷ []
  met (passed m onward) = meets m ∷ met onward
  met (undecided m) = meets m ∷ []
  met (ended m) = []
