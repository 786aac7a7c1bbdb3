-- Bytes looked up as rows: past the end, cut off, and with rows put into them.
use Prim.Native.Nat.{ℕ, zero, suc, ◌+◌, ◌^◌, ◌≤◌, ◌<◌}
use native.Mathlib.Nat.{le_refl, lt_of_lt_of_le, lt_of_le_of_lt}
use native.Mathlib.Omega.{arith}
use native.Mathlib.Decide.{dec_lt}
use mathlib.Core.Path.{◌≡◌, refl, sym, ap, fun_ext, ◌∙◌}
use mathlib.Core.Bool.{Bool, true, false, cond}
use mathlib.Core.Logic.{dite}
use mathlib.Core.List.{List}
use lib.Dec.{eqb, lit<}
use lib.ListN.{length, take, get_or-eq_default}
use lib.Seq.{get_or-take}
use lib.Pow.{pow_pos}
use Rattle.row.specs.declared.Row.{Row}
use Rattle.basis.proofs.Pick.{pick_case}
use Rattle.row.specs.Names.{VAR, LENGTH, KIND, A, SOURCE, place}
use Rattle.in_bytes.specs.Numbers.{byte}
use Rattle.row.specs.Bytes.{row, row_from, row_at, mark_wrong, Small}
use Rattle.row.proofs.Rows.{row_from_same, mark_wrong_same, put_mark, row_stays}
use Rattle.in_bytes.proofs.Numbers.{number_below}
use Rattle.names.specs.First.{name_of, name_at, first_of}
use Rattle.term.specs.Seen.{first_row}
use Rattle.term.specs.Term.{Term, const, var, shift, sum, diff, neg, read, fresh, write, term_of, row_of, stated_by}
use Rattle.term.specs.WellFormed.{Fits, Names}
use Rattle.term.specs.Bytes.{look, edited, put_if, put_rows}
use Rattle.term.proofs.Rows.{term_row, stated_term}
use Rattle.term.proofs.Placed.{length_put_rows, put_if_other_mark, put_rows_row}

-- past the end every row is CONST 0
pub look_past : (t : List ℕ) (x : ℕ) → length t ≤ place x → look t x ≡ const 0
unfolding look row_at row_from term_of
look_past t x h = rw (get_or-eq_default t 0 {n = place x + KIND} (omega arith))

-- ---- a row replaced: the others are looked up as before

pub edited_others : (t : List ℕ) (r : ℕ) (new : List ℕ) → length new ≡ LENGTH → (x : ℕ) → (x ≡ r → ⊥) → look t x ≡ look (edited t r new) x
unfolding look edited
edited_others t r new long x other = ap term_of (sym (row_stays t r new long x other))

-- ---- names

pub look_states : (t : List ℕ) (x : ℕ) → stated_by (look t x) ≡ name_at t x
unfolding look name_at
look_states t x = stated_term (row_at t x)

pub first_row_is : (t : List ℕ) (x : ℕ) → first_row (look t) x ≡ first_of (name_at t) x
unfolding first_row
first_row_is t x = ap (λ (names : ℕ → ℕ). first_of names x) (fun_ext (look_states t))

-- a name fits its field
pub name_small : (t : List ℕ) (x : ℕ) → stated_by (look t x) < 65536
unfolding name_at name_of row_at row_from
name_small t x =
    rw (look_states t x)
    (pick_case (λ (n : ℕ). n < 65536) (eqb (row_at t x).kind VAR)
    (λ (e : eqb (row_at t x).kind VAR ≡ true). number_below 2 t (place x + A))
    (λ (e : eqb (row_at t x).kind VAR ≡ false). lit< tt))

-- ---- the first n rows, cut off

room : (n x j : ℕ) → x < n → j < SOURCE → place x + j < place n
unfolding place
room n x j l h = omega arith

last_room : (n size : ℕ) → place (suc n) ≤ size → place n + LENGTH ≤ size
unfolding place
last_room n size h = omega arith

module _ (t : List ℕ) (n x : ℕ) (l : x < n) where
  cut_bytes : (j : ℕ) → j < SOURCE → byte (take (place n) t) (place x + j) ≡ byte t (place x + j)
  cut_bytes j h = get_or-take (place n) t (place x + j) 0 (room n x j l h)

  pub cut_row : row_at (take (place n) t) x ≡ row_at t x
  unfolding row_at
  cut_row = row_from_same (take (place n) t) t (place x) (place x) cut_bytes

  pub cut_mark : mark_wrong (take (place n) t) (place x) ≡ mark_wrong t (place x)
  cut_mark = mark_wrong_same (take (place n) t) t (place x) (place x) cut_bytes

  pub cut_look : look (take (place n) t) x ≡ look t x
  unfolding look
  cut_look = ap term_of cut_row

-- ---- rows put

pick_term : (b : Bool) (t : Term) (x : Row) → term_of (cond b (row_of t) x) ≡ cond b t (term_of x)
pick_term true t x = term_row t
pick_term false t x = refl

module _ (touched : ℕ → Bool) (f : ℕ → Term) (source : ℕ → ℕ) where
  pub look_put_rows : (n : ℕ) (buffer : List ℕ) → place n ≤ length buffer → ((x : ℕ) → x < n → touched x ≡ true → Small (row_of (f x))) →
      (x : ℕ) → x < n → look (put_rows touched f source n buffer) x ≡ cond (touched x) (f x) (look buffer x)
  unfolding look
  look_put_rows n buffer fits small x l = ap term_of (put_rows_row touched f source n buffer fits small x l) ∙ pick_term (touched x) (f x) (row_at buffer x)

  last_mark : (b : Bool) (buffer : List ℕ) (n : ℕ) (x : Row) (s : ℕ) → place n + LENGTH ≤ length buffer →
      mark_wrong (put_if b n x s buffer) (place n) ≡ cond b false (mark_wrong buffer (place n))
  unfolding put_if
  last_mark true buffer n x s fits = put_mark buffer n x s fits
  last_mark false buffer n x s fits = refl

  mark_above : (n : ℕ) (buffer : List ℕ) (x : ℕ) → n ≤ x → mark_wrong (put_rows touched f source n buffer) (place x) ≡ mark_wrong buffer (place x)
  unfolding put_rows
  mark_above zero buffer x h = refl
  mark_above (suc n) buffer x h =
      put_if_other_mark (put_rows touched f source n buffer) n (row_of (f n)) (source n) (touched n) x (omega arith) ∙ mark_above n buffer x (omega arith)

  -- a row that is put has the right mark
  pub put_rows_mark : (n : ℕ) (buffer : List ℕ) → place n ≤ length buffer →
      (x : ℕ) → x < n → mark_wrong (put_rows touched f source n buffer) (place x) ≡ cond (touched x) false (mark_wrong buffer (place x))
  unfolding put_rows
  put_rows_mark zero buffer fits x l = absurd (omega arith)
  put_rows_mark (suc n) buffer fits x l =
      let fits' : place n + LENGTH ≤ length buffer = last_room n (length buffer) fits in
      dite (dec_lt x n)
      (λ (h : x < n).
      put_if_other_mark (put_rows touched f source n buffer) n (row_of (f n)) (source n) (touched n) x (omega arith) ∙ put_rows_mark n buffer (omega arith) x h)
      (λ (h : x < n → ⊥).
      let e : x ≡ n = omega arith in
      rw e
      (last_mark (touched n) (put_rows touched f source n buffer) n (row_of (f n)) (source n) (rw (length_put_rows touched f source n buffer) fits') ∙
      ap (cond (touched n) false) (mark_above n buffer n (le_refl n))))

fields_small : (kind a b c k h : ℕ) → kind < 256 → a < 65536 → b < 65536 → c < 65536 → k < 2 ^ 64 → h < 2 ^ 64 → Small (row kind a b c k h)
fields_small kind a b c k h p q r s u v = record { kind = p; a = q; b = r; c = s; k = u; h = v }

-- the row of a term whose numbers are words of at most 64 bits and which names rows below x fits its fields
pub small_term : (M x : ℕ) → M ≤ 2 ^ 64 → x ≤ 65536 → (t : Term) →
    Fits M t → stated_by t < 65536 → Names (λ s y. y < x) t → Small (row_of t)
unfolding row_of stated_by
small_term M x words few (const k) fits u n =
    fields_small _ _ _ _ _ _ (lit< tt) (lit< tt) (lit< tt) (lit< tt) (lt_of_lt_of_le fits words) (pow_pos 64)
small_term M x words few (var name k h) fits u n =
    fields_small _ _ _ _ _ _ (lit< tt) u (lit< tt) (lit< tt) (lt_of_lt_of_le (lt_of_le_of_lt fits.0 fits.1) words) (lt_of_lt_of_le fits.1 words)
small_term M x words few (shift a k) fits u n =
    fields_small _ _ _ _ _ _ (lit< tt) (lt_of_lt_of_le n few) (lit< tt) (lit< tt) (lt_of_lt_of_le fits words) (pow_pos 64)
small_term M x words few (sum a b k) fits u n =
    fields_small _ _ _ _ _ _ (lit< tt) (lt_of_lt_of_le n.0 few) (lt_of_lt_of_le n.1 few) (lit< tt) (lt_of_lt_of_le fits words) (pow_pos 64)
small_term M x words few (diff a b k) fits u n =
    fields_small _ _ _ _ _ _ (lit< tt) (lt_of_lt_of_le n.0 few) (lt_of_lt_of_le n.1 few) (lit< tt) (lt_of_lt_of_le fits words) (pow_pos 64)
small_term M x words few (neg a k) fits u n =
    fields_small _ _ _ _ _ _ (lit< tt) (lt_of_lt_of_le n few) (lit< tt) (lit< tt) (lt_of_lt_of_le fits words) (pow_pos 64)
small_term M x words few (read a b) fits u n =
    fields_small _ _ _ _ _ _ (lit< tt) (lt_of_lt_of_le n.0 few) (lt_of_lt_of_le n.1 few) (lit< tt) (pow_pos 64) (pow_pos 64)
small_term M x words few fresh fits u n =
    fields_small _ _ _ _ _ _ (lit< tt) (lit< tt) (lit< tt) (lit< tt) (pow_pos 64) (pow_pos 64)
small_term M x words few (write a b c) fits u n =
    fields_small _ _ _ _ _ _ (lit< tt) (lt_of_lt_of_le n.0 few) (lt_of_lt_of_le n.1 few) (lt_of_lt_of_le n.2 few) (pow_pos 64) (pow_pos 64)
