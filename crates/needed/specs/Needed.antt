-- The rows that two ranges are made from, and their ranges. R are the bytes of a result, w is its width, S the store of ranges.
use Rattle.std.specs.Prelude.{ℕ, ◌^◌, ◌≤◌, ◌<◌, ◌≡◌, true, false, List}
use Rattle.range.specs.declared.Range.{Range}
use Rattle.range.specs.Range.{Proper}
use Rattle.range.specs.Store.{kept}
use Rattle.table.specs.Refusals.{MOST}
use Rattle.term.specs.Term.{is_array}
use Rattle.term.specs.Relation.{Rests, range_of}
use Rattle.term.specs.WellFormed.{Names, Below, WellFormed}
use Rattle.term.specs.Bytes.{look}
use Rattle.walks.specs.Ready.{Reached}
use Rattle.marks.specs.Marks.{marked}

-- row x is there, and is a word
pub record Word (R : List ℕ) (x : ℕ) : Type 0 where
  pub there : Reached R x
  pub sort : is_array (look R x) ≡ false

-- two word rows of a result
pub record TwoWords (R : List ℕ) (w x y : ℕ) : Type 0 where
  pub formed : WellFormed (2 ^ w) (look R)
  pub first_row : Word R x
  pub second_row : Word R y

-- ---- marking, from the last row down

-- words alone are marked, and with each marked row from r on the rows that its range is made from
pub record Needing (R : List ℕ) (r : ℕ) (marks : List ℕ) : Type 0 where
  pub names : (x : ℕ) → Names (Below (look R) x) (look R x)
  pub rows : (x : ℕ) → x < MOST → marked marks x ≡ true → Word R x
  pub closed : (x : ℕ) → r ≤ x → x < MOST → marked marks x ≡ true → Rests (λ y. marked marks y ≡ true) (look R x)

-- the marks after: so from row r on, and every marked row stays marked
pub record Needed (R marks : List ℕ) (r : ℕ) (after : List ℕ) : Type 0 where
  pub needs : Needing R r after
  pub stay : (x : ℕ) → marked marks x ≡ true → marked after x ≡ true

-- ---- ranges, from the first row up

-- the store has ranges of words alone
pub record Blank (w : ℕ) (S : List Range) : Type 0 where
  pub proper : (x : ℕ) → Proper (2 ^ w) (kept S x)

-- with each marked row the rows that its range is made from are marked, and the store has the ranges of the marked rows below r
pub record Keeping (R marks : List ℕ) (w r : ℕ) (S : List Range) : Type 0 where
  pub formed : WellFormed (2 ^ w) (look R)
  pub needs : Needing R 0 marks
  pub store : Blank w S
  pub ranges : (x : ℕ) → x < r → x < MOST → marked marks x ≡ true → kept S x ≡ range_of (2 ^ w) (look R) x

-- the store has the ranges of rows x and y
pub record TwoKept (R : List ℕ) (w x y : ℕ) (S : List Range) : Type 0 where
  pub first_range : kept S x ≡ range_of (2 ^ w) (look R) x
  pub second_range : kept S y ≡ range_of (2 ^ w) (look R) y
