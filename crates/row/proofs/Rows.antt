-- Rows in bytes: a row that was put is the row that is read; every other byte, and so every other row, stays.
-- Replaced bytes are any that are as many as a row has: those of a row that is put, or those that somebody hands in.
use Prim.Native.Nat.{ℕ, ◌+◌, ◌^◌, ◌<◌, ◌≤◌}
use native.Mathlib.Nat.{add_assoc, add-zero, zero-add}
use native.Mathlib.Decide.{dec_lt}
use native.Mathlib.Omega.{arith}
use mathlib.Core.Path.{◌≡◌, refl, sym, ◌∙◌}
use mathlib.Core.Logic.{◌≢◌, dite}
use mathlib.Core.Bool.{false}
use mathlib.Core.List.{List, ◌++◌}
use lib.ListN.{length, take, drop, get_or-append}
use lib.Seq.{sets, length-sets}
use Rattle.basis.proofs.Sets.{sets_below, sets_above, sets_inside, take_sets, drop_sets}
use Rattle.in_bytes.specs.Numbers.{byte, number, bytes}
use Rattle.in_bytes.proofs.Numbers.{number_same, number_bytes}
use Rattle.row.specs.declared.Row.{Row}
use Rattle.row.specs.Names.{LENGTH, KIND, ZERO, A, B, C, K, H, SOURCE, place}
use Rattle.row.specs.Bytes.{row, row_from, row_at, source_at, mark_wrong, head_of, bytes_of, put_row, Small}

-- ---- a row is where its bytes are

-- a number is where its bytes are
number_there : (s t : List ℕ) (i k end : ℕ) → ((j : ℕ) → j < end → byte s (i + j) ≡ byte t (k + j)) → (n off : ℕ) → off + n ≤ end → number n s (i + off) ≡ number n t (k + off)
number_there s t i k end same n off h =
    number_same n s t (i + off) (k + off) (λ j l. rw (add_assoc i off j, add_assoc k off j) (same (off + j) (omega arith)))

-- what a row says depends on the bytes before its source alone
module _ (s t : List ℕ) (i k : ℕ) (same : (j : ℕ) → j < SOURCE → byte s (i + j) ≡ byte t (k + j)) where
  there : (n off : ℕ) → off + n ≤ SOURCE → number n s (i + off) ≡ number n t (k + off)
  there = number_there s t i k SOURCE same

  pub row_from_same : row_from s i ≡ row_from t k
  unfolding row_from
  row_from_same = λ d.
      row (same KIND (omega arith) d) (there 2 A (omega arith) d) (there 2 B (omega arith) d)
      (there 2 C (omega arith) d) (there 8 K (omega arith) d) (there 8 H (omega arith) d)

  pub mark_wrong_same : mark_wrong s i ≡ mark_wrong t k
  unfolding mark_wrong
  mark_wrong_same = rw (simp add-zero at (same 0 (omega arith)), same 1 (omega arith), same ZERO (omega arith))

-- ---- bytes written over row r

module _ (t : List ℕ) (r : ℕ) (vs : List ℕ) (long : length vs ≡ LENGTH) where
  -- every byte outside the row stays
  pub byte_stays_below : (j : ℕ) → j < place r → byte (sets t (place r) vs) j ≡ byte t j
  byte_stays_below j h = sets_below t (place r) vs j h

  pub byte_stays_above : (j : ℕ) → place r + LENGTH ≤ j → byte (sets t (place r) vs) j ≡ byte t j
  byte_stays_above j h = sets_above t (place r) vs j (omega arith)

  pub bytes_stay : (s : ℕ) → s ≢ r → (j : ℕ) → j < LENGTH → byte (sets t (place r) vs) (place s + j) ≡ byte t (place s + j)
  unfolding place
  bytes_stay s other j h =
      dite (dec_lt s r)
      (λ (l : s < r). byte_stays_below (place s + j) (omega arith))
      (λ (l : s < r → ⊥). byte_stays_above (place s + j) (omega arith))

  pub row_stays : (s : ℕ) → s ≢ r → row_at (sets t (place r) vs) s ≡ row_at t s
  unfolding row_at
  row_stays s other = row_from_same (sets t (place r) vs) t (place s) (place s) (λ j l. bytes_stay s other j (omega arith))

  pub source_stays : (s : ℕ) → s ≢ r → source_at (sets t (place r) vs) s ≡ source_at t s
  unfolding source_at
  source_stays s other = number_there (sets t (place r) vs) t (place s) (place s) LENGTH (bytes_stay s other) 4 SOURCE (omega arith)

  pub mark_stays : (s : ℕ) → s ≢ r → mark_wrong (sets t (place r) vs) (place s) ≡ mark_wrong t (place s)
  mark_stays s other = mark_wrong_same (sets t (place r) vs) t (place s) (place s) (λ j l. bytes_stay s other j (omega arith))

  -- what ends before the row stays: the header, and the rows below
  pub take_stays : (n : ℕ) → n ≤ place r → take n (sets t (place r) vs) ≡ take n t
  take_stays n h = take_sets n t (place r) vs h

  pub drop_stays : (n : ℕ) → place r + LENGTH ≤ n → drop n (sets t (place r) vs) ≡ drop n t
  drop_stays n h = drop_sets n t (place r) vs (omega arith)

  -- the row is the one of the new bytes
  pub bytes_new : place r + LENGTH ≤ length t → (j : ℕ) → j < LENGTH → byte (sets t (place r) vs) (place r + j) ≡ byte vs j
  bytes_new room j h = sets_inside t (place r) vs j (omega arith) (omega arith)

  new : place r + LENGTH ≤ length t → (j : ℕ) → j < LENGTH → byte (sets t (place r) vs) (place r + j) ≡ byte vs (0 + j)
  new room j h = rw zero-add (bytes_new room j h)

  pub row_new : place r + LENGTH ≤ length t → row_at (sets t (place r) vs) r ≡ row_from vs 0
  unfolding row_at
  row_new room = row_from_same (sets t (place r) vs) vs (place r) 0 (λ j l. new room j (omega arith))

  pub source_new : place r + LENGTH ≤ length t → source_at (sets t (place r) vs) r ≡ number 4 vs SOURCE
  unfolding source_at
  source_new room = number_there (sets t (place r) vs) vs (place r) 0 LENGTH (new room) 4 SOURCE (omega arith)

  pub mark_new : place r + LENGTH ≤ length t → mark_wrong (sets t (place r) vs) (place r) ≡ mark_wrong vs 0
  mark_new room = mark_wrong_same (sets t (place r) vs) vs (place r) 0 (λ j l. new room j (omega arith))

-- ---- a row put

pub length_bytes_of : (x : Row) (source : ℕ) → length (bytes_of x source) ≡ LENGTH
unfolding bytes_of head_of bytes
length_bytes_of x source = refl

pub row_from_bytes_of : (x : Row) (source : ℕ) → Small x → row_from (bytes_of x source) 0 ≡ x
unfolding row_from bytes_of head_of bytes number
row_from_bytes_of x source small = λ i.
    row x.kind (number_bytes 2 x.a small.a i) (number_bytes 2 x.b small.b i) (number_bytes 2 x.c small.c i)
    (number_bytes 8 x.k small.k i) (number_bytes 8 x.h small.h i)

pub source_bytes_of : (x : Row) (source : ℕ) → source < 2 ^ 32 → number 4 (bytes_of x source) SOURCE ≡ source
unfolding bytes_of head_of bytes number
source_bytes_of x source small = number_bytes 4 source small

-- the bytes before the source do not depend on it
fields : Row → List ℕ
fields x = head_of x.kind ++ bytes 2 x.a ++ bytes 2 x.b ++ bytes 2 x.c ++ bytes 8 x.k ++ bytes 8 x.h

pub fields_bytes_of : (x : Row) (source other j : ℕ) → j < SOURCE → byte (bytes_of x source) j ≡ byte (bytes_of x other) j
unfolding fields bytes_of head_of bytes
fields_bytes_of x source other j h = get_or-append (fields x) (bytes 4 source) 0 j h ∙ sym (get_or-append (fields x) (bytes 4 other) 0 j h)

module _ (t : List ℕ) (r : ℕ) (x : Row) (source : ℕ) where
  pub length_put : length (put_row t r x source) ≡ length t
  unfolding put_row
  length_put = length-sets t (place r) (bytes_of x source)

  pub put_read_lem : place r + LENGTH ≤ length t → Small x → row_at (put_row t r x source) r ≡ x
  unfolding put_row
  put_read_lem room small = row_new t r (bytes_of x source) (length_bytes_of x source) room ∙ row_from_bytes_of x source small

  pub put_source : place r + LENGTH ≤ length t → source < 2 ^ 32 → source_at (put_row t r x source) r ≡ source
  unfolding put_row
  put_source room small = source_new t r (bytes_of x source) (length_bytes_of x source) room ∙ source_bytes_of x source small

  pub put_other : (s : ℕ) → s ≢ r → row_at (put_row t r x source) s ≡ row_at t s
  unfolding put_row
  put_other s other = row_stays t r (bytes_of x source) (length_bytes_of x source) s other

  pub put_other_source : (s : ℕ) → s ≢ r → source_at (put_row t r x source) s ≡ source_at t s
  unfolding put_row
  put_other_source s other = source_stays t r (bytes_of x source) (length_bytes_of x source) s other

  pub put_mark : place r + LENGTH ≤ length t → mark_wrong (put_row t r x source) (place r) ≡ false
  unfolding put_row mark_wrong bytes_of head_of bytes
  put_mark room = mark_new t r (bytes_of x source) (length_bytes_of x source) room

  pub put_other_mark : (s : ℕ) → s ≢ r → mark_wrong (put_row t r x source) (place s) ≡ mark_wrong t (place s)
  unfolding put_row
  put_other_mark s other = mark_stays t r (bytes_of x source) (length_bytes_of x source) s other

  pub put_take : (n : ℕ) → n ≤ place r → take n (put_row t r x source) ≡ take n t
  unfolding put_row
  put_take n h = take_stays t r (bytes_of x source) (length_bytes_of x source) n h

  pub put_drop : (n : ℕ) → place r + LENGTH ≤ n → drop n (put_row t r x source) ≡ drop n t
  unfolding put_row
  put_drop n h = drop_stays t r (bytes_of x source) (length_bytes_of x source) n h
