-- What the functions ask of their callers. R are the bytes of the result, S is the store of ranges, r is the row that is worked out.
use Rattle.std.specs.Prelude.{ℕ, ◌^◌, ◌≤◌, ◌<◌, ◌≡◌, false, List}
use Rattle.range.specs.declared.Range.{Range}
use Rattle.range.specs.Range.{Proper}
use Rattle.range.specs.Store.{kept}
use Rattle.table.specs.Refusals.{MOST}
use Rattle.term.specs.Term.{Term, is_array}
use Rattle.term.specs.WellFormed.{Fits, Names}
use Rattle.term.specs.Bytes.{look}
use Rattle.walks.specs.declared.value.Value.{Value}
use Rattle.walks.specs.Value.{value_at}
use Rattle.walks.specs.Ready.{NamesBelow, SortsIn, Standing, Sorted, Linked}

-- the store has for each word row below r a range of words below M
pub record Ranged (M : ℕ) (R : List ℕ) (S : List Range) (r : ℕ) : Type 0 where
  pub proper : (x : ℕ) → x < r → is_array (look R x) ≡ false → Proper M (kept S x)

-- of a rule for words, with one operand and with two
pub record Unary (R : List ℕ) (r a : ℕ) : Type 0 where
  pub rows : Standing R r
  pub below : a < r

pub record Binary (R : List ℕ) (r a b : ℕ) : Type 0 where
  pub rows : Standing R r
  pub left : a < r
  pub right : b < r

-- of NEG with v the value of its operand
pub record Negating (R : List ℕ) (r a : ℕ) (v : Value) : Type 0 where
  pub operand : Unary R r a
  pub value : v ≡ value_at (look R) a

-- of READ m i
pub record Reading (R : List ℕ) (r m i : ℕ) : Type 0 where
  pub rows : Standing R r
  pub array : m < r
  pub index : i < r

-- of WRITE m i e
pub record Writing (R : List ℕ) (r m i e : ℕ) : Type 0 where
  pub rows : Standing R r
  pub array : m < r
  pub index : i < r
  pub element : e < r

-- of a row that is rewritten
pub record Asked (R : List ℕ) (r : ℕ) (t : Term) : Type 0 where
  pub rows : Standing R r
  pub names : NamesBelow r t

-- of a row that is rewritten, where it is a READ: its array is one, and walks take their rows from the store
pub record Traced (R : List ℕ) (S : List Range) (r : ℕ) (t : Term) : Type 0 where
  pub links : Linked R S r
  pub sorted : Sorted R r
  pub sorts : SortsIn R t

-- of the range of a row, whole and by its parts
pub record Moving (w : ℕ) (a : Range) (k : ℕ) : Type 0 where
  pub proper : Proper (2 ^ w) a
  pub word : k < 2 ^ w

pub record RangedOne (S : List Range) (w r a k : ℕ) : Type 0 where
  pub few : r ≤ MOST
  pub below : a < r
  pub proper : Proper (2 ^ w) (kept S a)
  pub word : k < 2 ^ w

pub record RangedTwo (S : List Range) (w r a b k : ℕ) : Type 0 where
  pub few : r ≤ MOST
  pub left : a < r
  pub right : b < r
  pub left_proper : Proper (2 ^ w) (kept S a)
  pub right_proper : Proper (2 ^ w) (kept S b)
  pub word : k < 2 ^ w

pub record Ranging (S : List Range) (w r : ℕ) (t : Term) : Type 0 where
  pub few : r ≤ MOST
  pub fits : Fits (2 ^ w) t
  pub names : NamesBelow r t
  pub words : Names (λ array y. array ≡ false → Proper (2 ^ w) (kept S y)) t
