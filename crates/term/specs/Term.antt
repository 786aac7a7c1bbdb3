-- A row as a term: a constructor for each kind, with the fields that the kind uses.
use Rattle.std.specs.Prelude.{ℕ, Bool, true, false, ◌||◌, [], ◌∷◌, get_or}
use Rattle.row.specs.declared.Row.{Row}
use Rattle.row.specs.Bytes.{row}
use Rattle.row.specs.Names.{CONST, VAR, SHIFT, SUM, DIFF, NEG, READ, FRESH, WRITE}

pub data Term : Type 0 where
  const : ℕ → Term  -- k
  var : ℕ → ℕ → ℕ → Term  -- the name, k ≤ value ≤ h
  shift : ℕ → ℕ → Term  -- a + k
  sum diff : ℕ → ℕ → ℕ → Term  -- a + b + k, a - b + k
  neg : ℕ → ℕ → Term  -- k - a
  read : ℕ → ℕ → Term  -- array a at index b
  fresh : Term  -- an array of unknown content
  write : ℕ → ℕ → ℕ → Term  -- array a with c at index b

-- the term of a row; what is no kind counts as the constant 0
unfoldable pub term_of : Row → Term
term_of x =
    get_or (
    const 0 ∷
    const x.k ∷
    var x.a x.k x.h ∷
    shift x.a x.k ∷
    sum x.a x.b x.k ∷
    diff x.a x.b x.k ∷
    neg x.a x.k ∷
    read x.a x.b ∷
    fresh ∷
    write x.a x.b x.c ∷
    []) x.kind (const 0)

-- the row of a term: unused fields are zero
unfoldable pub row_of : Term → Row
row_of (const k) = row CONST 0 0 0 k 0
row_of (var name k h) = row VAR name 0 0 k h
row_of (shift a k) = row SHIFT a 0 0 k 0
row_of (sum a b k) = row SUM a b 0 k 0
row_of (diff a b k) = row DIFF a b 0 k 0
row_of (neg a k) = row NEG a 0 0 k 0
row_of (read a b) = row READ a b 0 0 0
row_of fresh = row FRESH 0 0 0 0 0
row_of (write a b c) = row WRITE a b c 0 0

-- the name that a term states; 0 is none
unfoldable pub stated_by : Term → ℕ
stated_by (const k) = 0
stated_by (var name k h) = name
stated_by (shift a k) = 0
stated_by (sum a b k) = 0
stated_by (diff a b k) = 0
stated_by (neg a k) = 0
stated_by (read a b) = 0
stated_by fresh = 0
stated_by (write a b c) = 0

unfoldable pub is_read : Term → Bool
is_read (const k) = false
is_read (var name k h) = false
is_read (shift a k) = false
is_read (sum a b k) = false
is_read (diff a b k) = false
is_read (neg a k) = false
is_read (read a b) = true
is_read fresh = false
is_read (write a b c) = false

unfoldable pub is_array : Term → Bool
is_array (const k) = false
is_array (var name k h) = false
is_array (shift a k) = false
is_array (sum a b k) = false
is_array (diff a b k) = false
is_array (neg a k) = false
is_array (read a b) = false
is_array fresh = true
is_array (write a b c) = true

-- one of the rows that a term names passes the test
unfoldable pub any_named : (ℕ → Bool) → Term → Bool
any_named test (const k) = false
any_named test (var name k h) = false
any_named test (shift a k) = test a
any_named test (sum a b k) = test a || test b
any_named test (diff a b k) = test a || test b
any_named test (neg a k) = test a
any_named test (read a b) = test a || test b
any_named test fresh = false
any_named test (write a b c) = test a || test b || test c
