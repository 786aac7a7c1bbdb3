-- What an accepted table guarantees: the record that everything above rests on.
use Rattle.std.specs.Prelude.{ℕ, ◌≤◌, ◌<◌, ◌^◌, ◌≡◌, true, false, List, length}
use Rattle.row.specs.Names.{VAR, place}
use Rattle.row.specs.Bytes.{row_at, mark_wrong}
use Rattle.row.specs.declared.Row.{Row}
use Rattle.table.specs.declared.Uses.{Uses}
use Rattle.table.specs.declared.Use.TheVariants.{Refers}
use Rattle.table.specs.Uses.{sort_of, is_used, is_reference, uses_of}
use Rattle.table.specs.Refusals.{width, rows, MOST, head_wrong, use_at, reference, other_bounds}
use Rattle.names.specs.First.{name_at, first_of}

-- row r of the table, which is x, and u, what its kind uses
pub record GoodRow (t : List ℕ) (r : ℕ) (x : Row) (u : Uses) : Type 0 where
  pub marked : mark_wrong t (place r) ≡ false
  pub kind_low : 1 ≤ x.kind
  pub kind_high : x.kind ≤ 9
  pub unused_zero : (f : ℕ) → f < 3 → is_used (use_at u f) ≡ false → reference x f ≡ 0
  pub unused_k : u.k ≡ false → x.k ≡ 0
  pub unused_h : u.h ≡ false → x.h ≡ 0
  pub k_word : u.k ≡ true → x.k < 2 ^ width t
  pub h_word : u.h ≡ true → x.h < 2 ^ width t
  pub below : (f : ℕ) → f < 3 → is_reference (use_at u f) ≡ true → reference x f < r
  pub sort : (f : ℕ) → f < 3 → is_reference (use_at u f) ≡ true → Refers (sort_of (row_at t (reference x f)).kind) ≡ use_at u f
  pub bounds : x.kind ≡ VAR → x.k ≤ x.h
  pub agrees : other_bounds x (row_at t (first_of (name_at t) r)) ≡ false

-- none of 1 to 5 holds
pub record GoodHead (t : List ℕ) : Type 0 where
  pub mark : head_wrong t ≡ false
  pub width_low : 1 ≤ width t
  pub width_high : width t ≤ 64
  pub few : rows t ≤ MOST
  pub size : length t ≡ place (rows t)

pub record Accepted (t : List ℕ) : Type 0 where
  pub head : GoodHead t
  pub row : (r : ℕ) → r < rows t → GoodRow t r (row_at t r) (uses_of (row_at t r).kind)
