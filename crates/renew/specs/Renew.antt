-- The loop over rows that run and edit share: what it asks, and what it leaves. T are the bytes of the table, R those of the result, n the
-- row count; a read compares at most `limit` stores.
use Rattle.std.specs.Prelude.{ℕ, ◌^◌, ◌≤◌, ◌<◌, ◌≡◌, Bool, false, cond, not, ◌&&◌, List, length, ltb}
use Rattle.range.specs.declared.Range.{Range}
use Rattle.range.specs.Store.{kept}
use Rattle.row.specs.Names.{place}
use Rattle.row.specs.Bytes.{source_at}
use Rattle.table.specs.Refusals.{MOST}
use Rattle.term.specs.Term.{Term, const, is_read, is_array}
use Rattle.term.specs.Relation.{range_of}
use Rattle.term.specs.Result.{renewed, removed_rows}
use Rattle.term.specs.Compared.{compared_rows}
use Rattle.term.specs.WellFormed.{Fits, Names, WellFormed}
use Rattle.term.specs.Bytes.{look, put_rows}
use Rattle.marks.specs.Marks.{marked}
use Rattle.walks.specs.Ready.{SortsIn}
use Rattle.rules.specs.Written.{CanWrite, Written}
use Rattle.judge.specs.Run.{LIMIT}
use Rattle.renew.specs.declared.Counts.{Counts}

-- the first n rows that stand in a buffer
unfoldable pub standing : List ℕ → ℕ → ℕ → Term
standing R n x = cond (ltb x n) (look R x) (const 0)

-- the rows that the loop leaves
unfoldable pub outcome : List ℕ → List ℕ → (ℕ → Bool) → ℕ → ℕ → ℕ → ℕ → Term
outcome T R touched w limit n = renewed (2 ^ w) limit touched (look T) (standing R n)

-- one turn: row r is touched where it is marked, and removed counts it where it was a READ and is none any more; `first` is the first row of its name
pub record CanTurn (T R : List ℕ) (S : List Range) (marks : List ℕ) (w r first : ℕ) : Type 0 where
  pub can : CanWrite T R S w r first (marked marks r)

pub record Turned (T R R' : List ℕ) (S S' : List Range) (marks : List ℕ) (w limit r : ℕ) (counts : Counts) : Type 0 where
  pub written : Written T R R' S S' w limit r (marked marks r) counts.compared
  pub removed : counts.removed ≡ cond (is_read (look T r) && not (is_read (look R' r))) 1 0

pub record CanRenew (T R : List ℕ) (S : List Range) (marks : List ℕ) (w limit n : ℕ) : Type 0 where
  pub width : w ≤ 64
  pub few : n ≤ MOST
  pub limited : limit ≤ LIMIT
  pub table_room : place n ≤ length T
  pub room : place n ≤ length R
  pub formed : WellFormed (2 ^ w) (look T)
  pub kept_fits : (x : ℕ) → x < n → marked marks x ≡ false → Fits (2 ^ w) (look R x)
  pub kept_names : (x : ℕ) → x < n → marked marks x ≡ false → Names (λ array y. y < x) (look R x)
  pub kept_sorts : (x : ℕ) → x < n → marked marks x ≡ false → SortsIn T (look R x)
  pub kept_sort : (x : ℕ) → x < n → marked marks x ≡ false → is_array (look R x) ≡ is_array (look T x)

-- S' is the store as the loop leaves it: it has the ranges of the word rows
pub record Renewed (T R marks : List ℕ) (w limit n : ℕ) (R' : List ℕ) (S' : List Range) (counts : Counts) : Type 0 where
  pub result : R' ≡ put_rows (marked marks) (outcome T R (marked marks) w limit n) (source_at T) n R
  pub rows : (x : ℕ) → x < n → look R' x ≡ outcome T R (marked marks) w limit n x
  pub ranges : (x : ℕ) → x < n → is_array (look T x) ≡ false → kept S' x ≡ range_of (2 ^ w) (outcome T R (marked marks) w limit n) x
  pub removed : counts.removed ≡ removed_rows (look T) (outcome T R (marked marks) w limit n) n
  pub compared : counts.compared ≡ compared_rows (2 ^ w) limit (marked marks) (look T) (outcome T R (marked marks) w limit n) n
