-- Rows put into a buffer: `put_rows` leaves all else, and is looked up row by row.
use Prim.Native.Nat.{ℕ, zero, suc, ◌+◌, ◌^◌, ◌≤◌, ◌<◌}
use native.Mathlib.Nat.{le_refl}
use native.Mathlib.Numerals.{add-one}
use native.Mathlib.Omega.{arith}
use native.Mathlib.Decide.{dec_lt}
use mathlib.Core.Path.{◌≡◌, refl, ap, ap₂, ◌∙◌}
use mathlib.Core.Bool.{Bool, true, false, cond}
use mathlib.Core.Logic.{dite, ◌≢◌}
use mathlib.Core.List.{List}
use lib.ListN.{length, take, drop}
use Rattle.row.specs.declared.Row.{Row}
use Rattle.row.specs.Names.{HEADER, LENGTH, place}
use Rattle.row.specs.Bytes.{row_at, source_at, mark_wrong, Small}
use Rattle.row.proofs.Places.{header_below}
use Rattle.row.proofs.Rows.{length_put, put_read_lem, put_source, put_other, put_other_source, put_other_mark, put_take, put_drop}
use Rattle.term.specs.Term.{Term, row_of}
use Rattle.term.specs.Bytes.{put_if, put_rows}

-- one row put where it is touched
module _ (buffer : List ℕ) (r : ℕ) (x : Row) (source : ℕ) where
  pub length_put_if : (touched : Bool) → length (put_if touched r x source buffer) ≡ length buffer
  unfolding put_if
  length_put_if true = length_put buffer r x source
  length_put_if false = refl

  pub put_if_other : (touched : Bool) (s : ℕ) → s ≢ r → row_at (put_if touched r x source buffer) s ≡ row_at buffer s
  unfolding put_if
  put_if_other true s other = put_other buffer r x source s other
  put_if_other false s other = refl

  pub put_if_other_source : (touched : Bool) (s : ℕ) → s ≢ r → source_at (put_if touched r x source buffer) s ≡ source_at buffer s
  unfolding put_if
  put_if_other_source true s other = put_other_source buffer r x source s other
  put_if_other_source false s other = refl

  pub put_if_source : (touched : Bool) → place r + LENGTH ≤ length buffer → source < 2 ^ 32 → source_at (put_if touched r x source buffer) r ≡ cond touched source (source_at buffer r)
  unfolding put_if
  put_if_source true room small = put_source buffer r x source room small
  put_if_source false room small = refl

  pub put_if_other_mark : (touched : Bool) (s : ℕ) → s ≢ r → mark_wrong (put_if touched r x source buffer) (place s) ≡ mark_wrong buffer (place s)
  unfolding put_if
  put_if_other_mark true s other = put_other_mark buffer r x source s other
  put_if_other_mark false s other = refl

  pub put_if_take : (touched : Bool) (n : ℕ) → n ≤ place r → take n (put_if touched r x source buffer) ≡ take n buffer
  unfolding put_if
  put_if_take true n h = put_take buffer r x source n h
  put_if_take false n h = refl

  pub put_if_drop : (touched : Bool) (n : ℕ) → place r + LENGTH ≤ n → drop n (put_if touched r x source buffer) ≡ drop n buffer
  unfolding put_if
  put_if_drop true n h = put_drop buffer r x source n h
  put_if_drop false n h = refl

-- one row more
pub put_rows_next : (touched : ℕ → Bool) (f : ℕ → Term) (source : ℕ → ℕ) (n : ℕ) (buffer : List ℕ) →
    put_rows touched f source (n + 1) buffer ≡ put_if (touched n) n (row_of (f n)) (source n) (put_rows touched f source n buffer)
unfolding put_rows
put_rows_next touched f source n buffer = rw add-one

pub length_put_rows : (touched : ℕ → Bool) (f : ℕ → Term) (source : ℕ → ℕ) (n : ℕ) (buffer : List ℕ) → length (put_rows touched f source n buffer) ≡ length buffer
unfolding put_rows
length_put_rows touched f source zero buffer = refl
length_put_rows touched f source (suc n) buffer =
    length_put_if (put_rows touched f source n buffer) n (row_of (f n)) (source n) (touched n) ∙ length_put_rows touched f source n buffer

-- what agrees on the first n rows puts the same
pub put_rows_same : (touched touched' : ℕ → Bool) (f f' : ℕ → Term) (source : ℕ → ℕ) (n : ℕ) (buffer : List ℕ) →
    ((x : ℕ) → x < n → touched x ≡ touched' x) → ((x : ℕ) → x < n → f x ≡ f' x) → put_rows touched f source n buffer ≡ put_rows touched' f' source n buffer
unfolding put_rows
put_rows_same touched touched' f f' source zero buffer p q = refl
put_rows_same touched touched' f f' source (suc n) buffer p q =
    ap₂ (λ (b : Bool) (t : Term). put_if b n (row_of t) (source n) (put_rows touched f source n buffer)) (p n (le_refl (suc n))) (q n (le_refl (suc n))) ∙
    ap (put_if (touched' n) n (row_of (f' n)) (source n))
    (put_rows_same touched touched' f f' source n buffer (λ (x : ℕ) (l : x < n). p x (omega arith)) (λ (x : ℕ) (l : x < n). q x (omega arith)))

-- rows from n on stay
pub put_rows_above : (touched : ℕ → Bool) (f : ℕ → Term) (source : ℕ → ℕ) (n : ℕ) (buffer : List ℕ) (x : ℕ) → n ≤ x → row_at (put_rows touched f source n buffer) x ≡ row_at buffer x
unfolding put_rows
put_rows_above touched f source zero buffer x h = refl
put_rows_above touched f source (suc n) buffer x h =
    put_if_other (put_rows touched f source n buffer) n (row_of (f n)) (source n) (touched n) x (omega arith) ∙ put_rows_above touched f source n buffer x (omega arith)

-- so do the bytes before the rows and behind them
pub put_rows_head : (touched : ℕ → Bool) (f : ℕ → Term) (source : ℕ → ℕ) (n : ℕ) (buffer : List ℕ) → take HEADER (put_rows touched f source n buffer) ≡ take HEADER buffer
unfolding put_rows
put_rows_head touched f source zero buffer = refl
put_rows_head touched f source (suc n) buffer =
    put_if_take (put_rows touched f source n buffer) n (row_of (f n)) (source n) (touched n) HEADER (header_below n) ∙ put_rows_head touched f source n buffer

pub put_rows_behind : (touched : ℕ → Bool) (f : ℕ → Term) (source : ℕ → ℕ) (n : ℕ) (buffer : List ℕ) (i : ℕ) → place n ≤ i → drop i (put_rows touched f source n buffer) ≡ drop i buffer
unfolding put_rows place
put_rows_behind touched f source zero buffer i h = refl
put_rows_behind touched f source (suc n) buffer i h =
    put_if_drop (put_rows touched f source n buffer) n (row_of (f n)) (source n) (touched n) i (omega arith) ∙ put_rows_behind touched f source n buffer i (omega arith)

room_less : (n : ℕ) (buffer : List ℕ) → place (suc n) ≤ length buffer → place n + LENGTH ≤ length buffer
unfolding place
room_less n buffer h = omega arith

-- the last row, touched or not
put_last : (b : Bool) (buffer : List ℕ) (n : ℕ) (x : Row) (source : ℕ) → place n + LENGTH ≤ length buffer → (b ≡ true → Small x) → row_at (put_if b n x source buffer) n ≡ cond b x (row_at buffer n)
unfolding put_if
put_last true buffer n x source room small = put_read_lem buffer n x source room (small refl)
put_last false buffer n x source room small = refl

-- a touched row is the row put, where that fits its fields; any other stays
pub put_rows_row : (touched : ℕ → Bool) (f : ℕ → Term) (source : ℕ → ℕ) (n : ℕ) (buffer : List ℕ) → place n ≤ length buffer → ((x : ℕ) → x < n → touched x ≡ true → Small (row_of (f x))) →
    (x : ℕ) → x < n → row_at (put_rows touched f source n buffer) x ≡ cond (touched x) (row_of (f x)) (row_at buffer x)
unfolding put_rows
put_rows_row touched f source zero buffer room small x l = absurd (omega arith)
put_rows_row touched f source (suc n) buffer room small x l =
    let room' : place n + LENGTH ≤ length buffer = room_less n buffer room in
    let earlier : List ℕ = put_rows touched f source n buffer in
    dite (dec_lt x n)
    (λ (h : x < n).
    put_if_other earlier n (row_of (f n)) (source n) (touched n) x (omega arith) ∙
    put_rows_row touched f source n buffer (omega arith) (λ (y : ℕ) (k : y < n). small y (omega arith)) x h)
    (λ (h : x < n → ⊥).
    let e : x ≡ n = omega arith in
    rw e
    (put_last (touched n) earlier n (row_of (f n)) (source n) (rw (length_put_rows touched f source n buffer) room') (small n (le_refl (suc n))) ∙
    ap (cond (touched n) (row_of (f n))) (put_rows_above touched f source n buffer n (le_refl n))))

-- so is its source
sources_above : (touched : ℕ → Bool) (f : ℕ → Term) (source : ℕ → ℕ) (n : ℕ) (buffer : List ℕ) (x : ℕ) → n ≤ x → source_at (put_rows touched f source n buffer) x ≡ source_at buffer x
unfolding put_rows
sources_above touched f source zero buffer x h = refl
sources_above touched f source (suc n) buffer x h =
    put_if_other_source (put_rows touched f source n buffer) n (row_of (f n)) (source n) (touched n) x (omega arith) ∙
    sources_above touched f source n buffer x (omega arith)

pub put_rows_source : (touched : ℕ → Bool) (f : ℕ → Term) (source : ℕ → ℕ) (n : ℕ) (buffer : List ℕ) → place n ≤ length buffer →
    ((x : ℕ) → source x < 2 ^ 32) → (x : ℕ) → x < n → source_at (put_rows touched f source n buffer) x ≡ cond (touched x) (source x) (source_at buffer x)
unfolding put_rows
put_rows_source touched f source zero buffer room small x l = absurd (omega arith)
put_rows_source touched f source (suc n) buffer room small x l =
    let room' : place n + LENGTH ≤ length buffer = room_less n buffer room in
    let earlier : List ℕ = put_rows touched f source n buffer in
    dite (dec_lt x n)
    (λ (h : x < n).
    put_if_other_source earlier n (row_of (f n)) (source n) (touched n) x (omega arith) ∙ put_rows_source touched f source n buffer (omega arith) small x h)
    (λ (h : x < n → ⊥).
    let e : x ≡ n = omega arith in
    rw e
    (put_if_source earlier n (row_of (f n)) (source n) (touched n) (rw (length_put_rows touched f source n buffer) room') (small n) ∙
    ap (cond (touched n) (source n)) (sources_above touched f source n buffer n (le_refl n))))
