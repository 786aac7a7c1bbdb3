-- What the functions ask of their callers. R are the bytes of the result, S is the store of ranges, r is the row that is worked out.
use Rattle.std.specs.Prelude.{ℕ, ◌+◌, ◌≤◌, ◌<◌, ◌≡◌, true, List, length}
use Rattle.range.specs.declared.Range.{Range}
use Rattle.range.specs.Range.{span, point}
use Rattle.range.specs.Store.{kept}
use Rattle.row.specs.declared.Row.{Row}
use Rattle.row.specs.Names.{LENGTH, SHIFT, place}
use Rattle.table.specs.Refusals.{MOST}
use Rattle.term.specs.Term.{Term, fresh, write, is_array}
use Rattle.term.specs.WellFormed.{Names}
use Rattle.term.specs.Bytes.{look}
use Rattle.walks.specs.declared.value.Value.{Value}
use Rattle.walks.specs.declared.relation.Index.{Index}
use Rattle.walks.specs.Value.{value, value_at}

-- a term names rows below x alone
abbrev pub NamesBelow : ℕ → Term → Type 0
NamesBelow x t = Names (λ array y. y < x) t

-- row x is there, and has a range
pub record Reached (R : List ℕ) (x : ℕ) : Type 0 where
  pub few : x < MOST
  pub room : place x + LENGTH ≤ length R

-- the rows below r stand: they are there, and each names rows below itself
pub record Standing (R : List ℕ) (r : ℕ) : Type 0 where
  pub few : r ≤ MOST
  pub room : place r ≤ length R
  pub names : (x : ℕ) → x < r → NamesBelow x (look R x)

-- each row that a term names is an array or a word of R, as it is used
abbrev pub SortsIn : List ℕ → Term → Type 0
SortsIn R t = Names (λ array y. is_array (look R y) ≡ array) t

-- the rows below r name such rows
pub record Sorted (R : List ℕ) (r : ℕ) : Type 0 where
  pub sorts : (x : ℕ) → x < r → SortsIn R (look R x)

-- the store has for each WRITE below r the row that it is written on, and its index; for each FRESH the number MOST, which is no row
pub record Linked (R : List ℕ) (S : List Range) (r : ℕ) : Type 0 where
  pub stores : (x a b c : ℕ) → x < r → look R x ≡ write a b c → kept S x ≡ span a b
  pub ends : (x : ℕ) → x < r → look R x ≡ fresh → kept S x ≡ point MOST

-- j has the value and the range of its row
pub record Sought (f : ℕ → Term) (g : ℕ → Range) (j : Index) : Type 0 where
  pub value : j.value ≡ value_at f j.row
  pub range : j.range ≡ g j.row

-- v is the value of row x, and u that of some row: the base of a SHIFT names one row
pub record Shared (x : Row) (v u : Value) : Type 0 where
  pub shift : x.kind ≡ SHIFT → v ≡ value SHIFT x.a 0 x.k
  pub second : u.kind ≡ SHIFT → u.b ≡ 0

-- of a comparison of row b with the index j
pub record Comparing (R : List ℕ) (S : List Range) (b : ℕ) (j : Index) : Type 0 where
  pub row : Reached R b
  pub index : Sought (look R) (kept S) j

-- of a walk for the index j that is at array row m
pub record Walking (R : List ℕ) (S : List Range) (r : ℕ) (j : Index) (m : ℕ) : Type 0 where
  pub rows : Standing R r
  pub index : Sought (look R) (kept S) j
  pub below : m < r

-- the same, where the rows are taken from the store
pub record Following (R : List ℕ) (S : List Range) (r m : ℕ) : Type 0 where
  pub links : Linked R S r
  pub sorted : Sorted R r
  pub array : is_array (look R m) ≡ true
