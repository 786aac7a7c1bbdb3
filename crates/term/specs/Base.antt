-- Base and offset: document 01, "Normal form of a word". M is 2 ^ w.
use Rattle.std.specs.Prelude.{ℕ, Bool, cond, ◌&&◌, eqb}
use Rattle.row.specs.Names.{CONST, SHIFT, SUM, DIFF, NEG}
use Rattle.term.specs.Term.{Term, const, var, shift, sum, diff, neg, read, fresh, write}

pub data Base : Type 0 where
  Nothing : Base
  One : ℕ → Base
  Sum Difference : ℕ → ℕ → Base
  Negative : ℕ → Base

-- the base of result row r, which is the given term. (An array row has none that is asked for.)
unfoldable pub base_of : ℕ → Term → Base
base_of r (const k) = Nothing
base_of r (var name k h) = One r
base_of r (shift a k) = One a
base_of r (sum a b k) = Sum a b
base_of r (diff a b k) = Difference a b
base_of r (neg a k) = Negative a
base_of r (read a b) = One r
base_of r fresh = One r
base_of r (write a b c) = One r

-- its offset
unfoldable pub offset_of : Term → ℕ
offset_of (const k) = k
offset_of (var name k h) = 0
offset_of (shift a k) = k
offset_of (sum a b k) = k
offset_of (diff a b k) = k
offset_of (neg a k) = k
offset_of (read a b) = 0
offset_of fresh = 0
offset_of (write a b c) = 0

-- the row of the shape of a base, with an offset
unfoldable pub written : Base → ℕ → Term
written Nothing k = const k
written (One x) k = shift x k
written (Sum x y) k = sum x y k
written (Difference x y) k = diff x y k
written (Negative x) k = neg x k

-- a base by numbers: the kind that it is written as, and the rows that it names
unfoldable pub shape_of : Base → ℕ
shape_of Nothing = CONST
shape_of (One x) = SHIFT
shape_of (Sum x y) = SUM
shape_of (Difference x y) = DIFF
shape_of (Negative x) = NEG

unfoldable pub left_of : Base → ℕ
left_of Nothing = 0
left_of (One x) = x
left_of (Sum x y) = x
left_of (Difference x y) = x
left_of (Negative x) = x

unfoldable pub right_of : Base → ℕ
right_of Nothing = 0
right_of (One x) = 0
right_of (Sum x y) = y
right_of (Difference x y) = y
right_of (Negative x) = 0

-- the bases agree
unfoldable pub same_base : Base → Base → Bool
same_base d e = eqb (shape_of d) (shape_of e) && eqb (left_of d) (left_of e) && eqb (right_of d) (right_of e)

-- constant: the base is nothing
unfoldable pub is_nothing : Base → Bool
is_nothing d = eqb (shape_of d) CONST

-- what row r of base d and offset k opens to: the row x, and its offset
unfoldable pub open_row : ℕ → Base → ℕ
open_row r Nothing = r
open_row r (One x) = x
open_row r (Sum x y) = r
open_row r (Difference x y) = r
open_row r (Negative x) = r

unfoldable pub open_offset : Base → ℕ → ℕ
open_offset Nothing k = 0
open_offset (One x) k = k
open_offset (Sum x y) k = 0
open_offset (Difference x y) k = 0
open_offset (Negative x) k = 0

-- over the result rows f
module _ (f : ℕ → Term) where
  unfoldable pub base : ℕ → Base
  base x = base_of x (f x)

  unfoldable pub offset : ℕ → ℕ
  offset x = offset_of (f x)

  unfoldable pub open_to : ℕ → ℕ
  open_to x = open_row x (base x)

  unfoldable pub open_by : ℕ → ℕ
  open_by x = open_offset (base x) (offset x)

-- the plain name of row r, which is the given term
unfoldable pub plain_of : ℕ → Term → ℕ
plain_of r (const k) = r
plain_of r (var name k h) = r
plain_of r (shift x k) = cond (eqb k 0) x r
plain_of r (sum a b k) = r
plain_of r (diff a b k) = r
plain_of r (neg a k) = r
plain_of r (read a b) = r
plain_of r fresh = r
plain_of r (write a b c) = r

unfoldable pub plain : (ℕ → Term) → ℕ → ℕ
plain f x = plain_of x (f x)
