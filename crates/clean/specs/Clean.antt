-- When the fields of a row are in order, given what its kind uses; and what is told of a row that has no fault.
use Rattle.std.specs.Prelude.{ℕ, ◌+◌, ◌-◌, ◌^◌, ◌≤◌, ◌≡◌, Bool, true, cond, ◌&&◌, List, leb, ltb, eqb, length}
use Rattle.row.specs.Names.{LENGTH, place}
use Rattle.row.specs.Bytes.{row_at}
use Rattle.row.specs.declared.Row.{Row}
use Rattle.names.specs.First.{name_at}
use Rattle.table.specs.declared.Uses.{Uses}
use Rattle.table.specs.declared.Use.{Use}
use Rattle.table.specs.Uses.{sort_of, is_reference, refers_to}
use Rattle.table.specs.Refusals.{width, row_fault}

-- a number: a word where it is used, else zero
unfoldable pub number_clean : ℕ → Bool → ℕ → Bool
number_clean w used v = cond used (leb v (2 ^ w - 1)) (eqb v 0)

-- a reference field of row r: a row before, of the sort that it is used for, and zero where it refers to none
unfoldable pub field_clean : List ℕ → ℕ → Use → ℕ → Bool
field_clean t r used at = cond (is_reference used) (ltb at r && refers_to (sort_of (row_at t at).kind) used) (eqb at 0)

unfoldable pub row_clean : List ℕ → ℕ → ℕ → Uses → Row → Bool
row_clean t w r u x =
    number_clean w u.k x.k && number_clean w u.h x.h && field_clean t r u.a x.a && field_clean t r u.b x.b && field_clean t r u.c x.c

-- what is asked of row r, which is x
pub record Asked (t : List ℕ) (w r : ℕ) (x : Row) : Type 0 where
  pub is_width : w ≡ width t
  pub is_row : x ≡ row_at t r
  pub within : place r + LENGTH ≤ length t

-- where it is told, row r has no fault and states no name
pub record NoFault (t : List ℕ) (r : ℕ) (told : Bool) : Type 0 where
  pub fault : told ≡ true → row_fault t r ≡ 0
  pub name : told ≡ true → name_at t r ≡ 0
