-- The walk of a READ: document 01, "Reads and writes". A walk is told by its steps, so that its outcome and the stores that it compared are
-- read off it.
use Rattle.std.specs.Prelude.{ℕ, zero, suc}
use Rattle.range.specs.declared.Range.{Range}
use Rattle.term.specs.Term.{Term, const, var, shift, sum, diff, neg, read, fresh, write}
use Rattle.term.specs.declared.Relation.{Relation}
use Rattle.term.specs.declared.Relation.TheVariants.{Same, Apart, Unknown}
use Rattle.term.specs.Relation.{related}

pub data Walk : Type 0 where
  found : ℕ → ℕ → Walk  -- the store m has the index wanted: its element c
  passed : ℕ → Walk → Walk  -- past the store m, whose index is apart
  undecided : ℕ → Walk  -- at the store m, of whose index neither is known
  ended : ℕ → Walk  -- at the array m, which is no store, or with no comparison left

-- at the store m, array a with the element c: by what is known of its index, `onward` from a
unfoldable pub step : ℕ → ℕ → ℕ → (ℕ → Walk) → Relation → Walk
step m a c onward Same = found m c
step m a c onward Apart = passed m (onward a)
step m a c onward Unknown = undecided m

-- for the index row i, over the result rows f and their ranges g: at array row m, which is the given term
unfoldable pub walk_at : (ℕ → Term) → (ℕ → Range) → ℕ → ℕ → (ℕ → Walk) → Term → Walk
walk_at f g i m onward (const k) = ended m
walk_at f g i m onward (var name k h) = ended m
walk_at f g i m onward (shift a k) = ended m
walk_at f g i m onward (sum a b k) = ended m
walk_at f g i m onward (diff a b k) = ended m
walk_at f g i m onward (neg a k) = ended m
walk_at f g i m onward (read a b) = ended m
walk_at f g i m onward fresh = ended m
walk_at f g i m onward (write a b c) = step m a c onward (related f g b i)

-- from array row m on, comparing at most `left` stores
unfoldable pub walk : (ℕ → Term) → (ℕ → Range) → ℕ → ℕ → ℕ → Walk
walk f g i zero m = ended m
walk f g i (suc left) m = walk_at f g i m (walk f g i left) (f m)

-- how many stores a walk compared: the one with the index wanted, each one passed, and the one of which neither is known
unfoldable pub compared : Walk → ℕ
compared (found m c) = 1
compared (passed m onward) = suc (compared onward)
compared (undecided m) = 1
compared (ended m) = 0
