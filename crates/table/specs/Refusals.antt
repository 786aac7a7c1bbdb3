-- The table of refusals, line by line, for a table alone: 1 to 5 and 9 to 15 (document 01, "What is answered"), and 18 (document 02, A2).
use Rattle.std.specs.Prelude.{ℕ, zero, suc, ◌+◌, ◌*◌, ◌^◌, Bool, cond, not, ◌&&◌, ◌||◌, List, [], ◌∷◌, length, get_or, leb, ltb, eqb}
use Rattle.basis.specs.Reason.{Reason, ◌when◌, first}
use Rattle.row.specs.Names.{HEADER, LENGTH, VAR, place}
use Rattle.in_bytes.specs.Numbers.{byte, number}
use Rattle.row.specs.Bytes.{row_at, mark_wrong}
use Rattle.table.specs.declared.Uses.{Uses}
use Rattle.table.specs.Verdict.{Verdict}
use Rattle.table.specs.declared.Use.{Use}
use Rattle.table.specs.declared.Use.TheVariants.{Unused}
use Rattle.table.specs.Uses.{sort_of, is_used, is_reference, refers_to, uses_of}
use Rattle.row.specs.declared.Row.{Row}
use Rattle.names.specs.First.{name_at, first_of}

-- the width and the row count that a header states
unfoldable pub width : List ℕ → ℕ
width t = byte t 2

unfoldable pub rows : List ℕ → ℕ
rows t = number 2 t 4

-- the largest row count
abbrev pub MOST : ℕ
MOST = 1024

-- bytes of the largest table
abbrev pub LARGEST : ℕ
LARGEST = HEADER + LENGTH * MOST

unfoldable pub head_wrong : List ℕ → Bool
head_wrong t = not (eqb (byte t 0) 0x46) || not (eqb (byte t 1) 0x54) || not (eqb (byte t 3) 0)

-- 1 to 5, in their order. A table of n rows ends where row n would begin
unfoldable pub head_reasons : List ℕ → List Reason
head_reasons t =
    1 when ltb (length t) HEADER ∷
    2 when head_wrong t ∷
    3 when (eqb (width t) 0 || ltb 64 (width t)) ∷
    4 when ltb MOST (rows t) ∷
    5 when not (eqb (length t) (place (rows t))) ∷
    []

-- the reference fields by number, a 0, b 1, c 2: what a row has there, and as what its kind uses it
unfoldable pub reference : Row → ℕ → ℕ
reference x f = get_or (x.a ∷ x.b ∷ x.c ∷ []) f 0

unfoldable pub use_at : Uses → ℕ → Use
use_at u f = get_or (u.a ∷ u.b ∷ u.c ∷ []) f Unused

-- one of the three reference fields passes the test
unfoldable pub any_field : (ℕ → Bool) → Bool
any_field test = test 0 || test 1 || test 2

-- 11
unfoldable pub stray_field : Uses → Row → Bool
stray_field u x =
    any_field (λ f. not (is_used (use_at u f)) && not (eqb (reference x f) 0)) ||
    (not u.k && not (eqb x.k 0)) ||
    (not u.h && not (eqb x.h 0))

-- 12
unfoldable pub large_number : ℕ → Uses → Row → Bool
large_number w u x = (u.k && leb (2 ^ w) x.k) || (u.h && leb (2 ^ w) x.h)

-- 13, for row r
unfoldable pub not_below : ℕ → Uses → Row → ℕ → Bool
not_below r u x f = is_reference (use_at u f) && leb r (reference x f)

-- 14
unfoldable pub wrong_sort : List ℕ → Uses → Row → ℕ → Bool
wrong_sort t u x f = is_reference (use_at u f) && not (refers_to (sort_of (row_at t (reference x f)).kind) (use_at u f))

-- 15
unfoldable pub bounds_crossed : Row → Bool
bounds_crossed x = eqb x.kind VAR && ltb x.h x.k

-- 18: the row x states other bounds than y, the first row of its name. (A row that is its own first states its own.)
unfoldable pub other_bounds : Row → Row → Bool
other_bounds x y = not (eqb x.k y.k) || not (eqb x.h y.h)

-- 9 to 15, then 18, of row r, which is x, in their order
unfoldable pub row_reasons : List ℕ → ℕ → Row → List Reason
row_reasons t r x =
    9 when mark_wrong t (place r) ∷
    10 when not (leb 1 x.kind && leb x.kind 9) ∷
    11 when stray_field (uses_of x.kind) x ∷
    12 when large_number (width t) (uses_of x.kind) x ∷
    13 when any_field (not_below r (uses_of x.kind) x) ∷
    14 when any_field (wrong_sort t (uses_of x.kind) x) ∷
    15 when bounds_crossed x ∷
    18 when other_bounds x (row_at t (first_of (name_at t) r)) ∷
    []

-- the number that row r of a table is refused with, 0 where it is not
unfoldable pub row_fault : List ℕ → ℕ → ℕ
row_fault t r = first (row_reasons t r (row_at t r))

unfoldable pub refuse : ℕ → ℕ → Verdict
refuse number row = record { number = number; row = row }

unfoldable pub accepted : Verdict
accepted = refuse 0 0

-- the refusal by a number and row, or where the number is 0 what comes after
unfoldable pub given : ℕ → ℕ → Verdict → Verdict
given number row after = cond (eqb number 0) after (refuse number row)

-- the first faulty row of `left` rows from r on, or what comes after where there is none
unfoldable pub first_faulty : (ℕ → ℕ) → ℕ → ℕ → Verdict → Verdict
first_faulty fault zero r after = after
first_faulty fault (suc left) r after = given (fault r) r (first_faulty fault left (suc r) after)

-- rows ascending, each row 9 to 15 and 18 ascending, then what comes after
unfoldable pub check_rows : List ℕ → Verdict → Verdict
check_rows t after = first_faulty (row_fault t) (rows t) 0 after

-- a table alone
unfoldable pub check_table : List ℕ → Verdict
check_table t = given (first (head_reasons t)) 0 (check_rows t accepted)
