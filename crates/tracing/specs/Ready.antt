-- What the functions ask of their callers. T are the bytes of a table, R those of its result, S is the store of ranges.
use Rattle.std.specs.Prelude.{ℕ, suc, ◌+◌, ◌^◌, ◌≤◌, ◌<◌, ◌≡◌, true, List, length}
use Rattle.range.specs.declared.Range.{Range}
use Rattle.row.specs.Names.{LENGTH, place}
use Rattle.table.specs.Refusals.{width}
use Rattle.term.specs.Term.{is_read}
use Rattle.term.specs.Bytes.{look}
use Rattle.walks.specs.declared.relation.Index.{Index}
use Rattle.walks.specs.Ready.{NamesBelow, Standing, Walking}
use Rattle.judge.specs.Run.{LIMIT}

-- of the lines of a walk for READ row r that begins at array row m, written from `at` on
pub record Telling (T R : List ℕ) (S : List Range) (at limit r : ℕ) (j : Index) (m : ℕ) : Type 0 where
  pub room : place r + LENGTH ≤ length T
  pub walking : Walking R S r j m
  pub sought : j.row < r
  pub early : at < 2 ^ 16
  pub few : limit ≤ LIMIT

-- of the list of READ row r of a table
pub record Listable (T R : List ℕ) (r : ℕ) : Type 0 where
  pub wide : width T ≤ 64
  pub room : place r + LENGTH ≤ length T
  pub reads : is_read (look T r) ≡ true
  pub names : NamesBelow r (look T r)
  pub rows : Standing R (suc r)
