-- A row whose bytes stand in a buffer already: putting it changes nothing, so it does not matter whether it counts as touched.
use Prim.Native.Nat.{ℕ, zero, suc, ◌+◌, ◌≤◌, ◌<◌}
use native.Mathlib.Nat.{le_refl, zero-add, suc-add}
use native.Mathlib.Omega.{arith}
use native.Mathlib.Decide.{dec_lt}
use mathlib.Core.Path.{◌≡◌, refl, ap, sym, ◌∙◌}
use mathlib.Core.Bool.{Bool, true, false, true≢false}
use mathlib.Core.Logic.{dite}
use mathlib.Core.List.{List, [], ◌∷◌, ◌++◌, append_assoc}
use lib.ListN.{length, take, drop}
use lib.Seq.{sets, sets-eq, take_at, drop_at, take-nil, drop-nil, take-take, length-take-le}
use Rattle.row.specs.declared.Row.{Row}
use Rattle.row.specs.Names.{LENGTH, place}
use Rattle.row.specs.Bytes.{bytes_of, put_row}
use Rattle.row.proofs.Places.{room_below}
use Rattle.basis.proofs.Sets.{sets_same}
use Rattle.row.proofs.Rows.{length_bytes_of, put_take, put_drop}
use Rattle.term.specs.Term.{Term, row_of}
use Rattle.term.specs.Bytes.{put_if, put_rows}
use Rattle.term.proofs.Placed.{length_put_rows, put_rows_behind}

-- the bytes of row x in a buffer
unfoldable pub row_bytes : List ℕ → ℕ → List ℕ
row_bytes buffer x = take LENGTH (drop (place x) buffer)

drop_of_take : (n m : ℕ) (l : List ℕ) → drop n (take (n + m) l) ≡ take m (drop n l)
drop_of_take zero m l = rw zero-add
drop_of_take (suc n) m [] = rw (take-nil (suc n + m), drop-nil (suc n)) (sym (take-nil m))
drop_of_take (suc n) m (x ∷ l) = rw suc-add (drop_of_take n m l)

-- row x depends on the bytes up to its end alone
pub bytes_before : (s t : List ℕ) (x i : ℕ) → place x + LENGTH ≤ i → take i s ≡ take i t → row_bytes s x ≡ row_bytes t x
unfolding row_bytes
bytes_before s t x i h e =
    sym (drop_of_take (place x) LENGTH s) ∙ ap (drop (place x)) shorter ∙ drop_of_take (place x) LENGTH t
  where
    shorter : take (place x + LENGTH) s ≡ take (place x + LENGTH) t
    shorter = sym (take-take (place x + LENGTH) i s h) ∙ ap (take (place x + LENGTH)) e ∙ take-take (place x + LENGTH) i t h

-- a row that was put is there
pub put_there : (buffer : List ℕ) (x : ℕ) (y : Row) (source : ℕ) → place x + LENGTH ≤ length buffer → row_bytes (put_row buffer x y source) x ≡ bytes_of y source
unfolding row_bytes put_row
put_there buffer x y source room =
    let room' : place x + length (bytes_of y source) ≤ length buffer = rw (length_bytes_of y source) room in
    ap (λ (l : List ℕ). take LENGTH (drop (place x) l)) (sets-eq (bytes_of y source) buffer (place x) room') ∙
    ap (λ (l : List ℕ). take LENGTH (drop (place x) l)) (append_assoc (take (place x) buffer) (bytes_of y source) (drop (place x + length (bytes_of y source)) buffer)) ∙
    ap (take LENGTH) (drop_at (take (place x) buffer) (bytes_of y source ++ drop (place x + length (bytes_of y source)) buffer) (place x) (length-take-le (place x) buffer (omega arith))) ∙
    take_at (bytes_of y source) (drop (place x + length (bytes_of y source)) buffer) LENGTH (length_bytes_of y source)

-- putting what is there changes nothing
pub there_put : (buffer : List ℕ) (x : ℕ) (y : Row) (source : ℕ) → row_bytes buffer x ≡ bytes_of y source → put_row buffer x y source ≡ buffer
unfolding row_bytes put_row
there_put buffer x y source e = ap (sets buffer (place x)) (sym e) ∙ sets_same buffer (place x) LENGTH

-- any other row keeps its bytes
pub put_bytes_other : (buffer : List ℕ) (n : ℕ) (y : Row) (source x : ℕ) → (x ≡ n → ⊥) → row_bytes (put_row buffer n y source) x ≡ row_bytes buffer x
unfolding row_bytes
put_bytes_other buffer n y source x other =
    dite (dec_lt x n)
    (λ (l : x < n). bytes_before (put_row buffer n y source) buffer x (place n) (room_below l) (put_take buffer n y source (place n) (le_refl (place n))))
    (λ (l : x < n → ⊥). let h : n < x = omega arith in ap (take LENGTH) (put_drop buffer n y source (place x) (room_below h)))

-- one row put where it is touched
put_if_bytes : (b : Bool) (buffer : List ℕ) (n : ℕ) (y : Row) (source x : ℕ) → (b ≡ true → x ≡ n → ⊥) → row_bytes (put_if b n y source buffer) x ≡ row_bytes buffer x
unfolding put_if
put_if_bytes true buffer n y source x other = put_bytes_other buffer n y source x (other refl)
put_if_bytes false buffer n y source x other = refl

put_if_there : (b : Bool) (buffer : List ℕ) (n : ℕ) (y : Row) (source : ℕ) → place n + LENGTH ≤ length buffer → b ≡ true → row_bytes (put_if b n y source buffer) n ≡ bytes_of y source
unfolding put_if
put_if_there true buffer n y source room e = put_there buffer n y source room
put_if_there false buffer n y source room e = absurd (true≢false (sym e))

put_if_alike : (b c : Bool) (buffer : List ℕ) (n : ℕ) (y : Row) (source : ℕ) → ((b ≡ c → ⊥) → row_bytes buffer n ≡ bytes_of y source) → put_if b n y source buffer ≡ put_if c n y source buffer
unfolding put_if
put_if_alike true true buffer n y source there = refl
put_if_alike true false buffer n y source there = there_put buffer n y source (there true≢false)
put_if_alike false true buffer n y source there = sym (there_put buffer n y source (there (λ e. true≢false (sym e))))
put_if_alike false false buffer n y source there = refl

module _ (f : ℕ → Term) (source : ℕ → ℕ) where
  -- a row that is not touched keeps its bytes
  pub rows_stay : (touched : ℕ → Bool) (n : ℕ) (buffer : List ℕ) (x : ℕ) → touched x ≡ false → row_bytes (put_rows touched f source n buffer) x ≡ row_bytes buffer x
  unfolding put_rows
  rows_stay touched zero buffer x e = refl
  rows_stay touched (suc n) buffer x e =
      put_if_bytes (touched n) (put_rows touched f source n buffer) n (row_of (f n)) (source n) x (λ t same. true≢false (sym t ∙ ap touched (sym same) ∙ e)) ∙
      rows_stay touched n buffer x e

  -- touched rows are there once they were put
  pub rows_there : (touched : ℕ → Bool) (n : ℕ) (buffer : List ℕ) → place n ≤ length buffer → (x : ℕ) → x < n → touched x ≡ true →
      row_bytes (put_rows touched f source n buffer) x ≡ bytes_of (row_of (f x)) (source x)
  unfolding put_rows
  rows_there touched zero buffer room x l e = absurd (omega arith)
  rows_there touched (suc n) buffer room x l e =
      let last : place n + LENGTH ≤ place (suc n) = room_below (le_refl (suc n)) in
      dite (dec_lt x n)
      (λ (h : x < n).
      put_if_bytes (touched n) (put_rows touched f source n buffer) n (row_of (f n)) (source n) x (λ t same. omega arith) ∙
      rows_there touched n buffer (omega arith) x h e)
      (λ (h : x < n → ⊥).
      let same : x ≡ n = omega arith in
      rw same
      (put_if_there (touched n) (put_rows touched f source n buffer) n (row_of (f n)) (source n) (rw (length_put_rows touched f source n buffer) (omega arith)) (rw same at e)))

  -- rows that are there already need not be touched
  pub rows_alike : (touched touched' : ℕ → Bool) (n : ℕ) (buffer : List ℕ) →
      ((x : ℕ) → x < n → (touched x ≡ touched' x → ⊥) → row_bytes buffer x ≡ bytes_of (row_of (f x)) (source x)) → put_rows touched f source n buffer ≡ put_rows touched' f source n buffer
  unfolding put_rows row_bytes
  rows_alike touched touched' zero buffer there = refl
  rows_alike touched touched' (suc n) buffer there =
      put_if_alike (touched n) (touched' n) (put_rows touched f source n buffer) n (row_of (f n)) (source n) (λ other. behind ∙ there n (le_refl (suc n)) other) ∙
      ap (put_if (touched' n) n (row_of (f n)) (source n)) (rows_alike touched touched' n buffer (λ (x : ℕ) (l : x < n). there x (omega arith)))
    where
      behind : row_bytes (put_rows touched f source n buffer) n ≡ row_bytes buffer n
      behind = ap (take LENGTH) (put_rows_behind touched f source n buffer (place n) (le_refl (place n)))

-- nothing touched, nothing changed
pub none_touched : (f : ℕ → Term) (source : ℕ → ℕ) (n : ℕ) (buffer : List ℕ) → put_rows (λ x. false) f source n buffer ≡ buffer
unfolding put_rows put_if
none_touched f source zero buffer = refl
none_touched f source (suc n) buffer = none_touched f source n buffer
