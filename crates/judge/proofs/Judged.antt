-- Each way out of the functions that judge: the number answered is that of the first reason that holds.
use Prim.Native.Nat.{ℕ, ◌+◌, ◌≤◌, ◌<◌}
use native.Mathlib.Omega.{arith}
use mathlib.Core.Path.{◌≡◌, refl, ap, sym, ◌∙◌}
use mathlib.Core.Bool.{Bool, true, false, not}
use mathlib.Core.List.{List, [], ◌∷◌, ◌++◌}
use lib.ListN.{length}
use lib.Dec.{leb, eqb}
use borrow.Author.Tests.{lt-ltb, le-ltb, le-leb, lt-leb, eq-eqb, ne_eqb}
use Rattle.basis.specs.Reason.{Reason, ◌when◌, first}
use Rattle.basis.proofs.Pick.{test_case, or_true_left, or_true_right, or_false}
use Rattle.basis.proofs.Reasons.{numbered, append_skips, append_here, first_here, first_skips}
use Rattle.row.specs.Names.{HEADER, LENGTH, place}
use Rattle.row.specs.Bytes.{row_at}
use Rattle.table.specs.Verdict.{Verdict}
use Rattle.table.specs.declared.Sort.TheVariants.{Array}
use Rattle.table.specs.Uses.{is_sort, sort_of}
use Rattle.table.specs.declared.Fault.{Fault}
use Rattle.table.specs.Fault.{number_of}
use Rattle.table.proofs.Told.{fault_some}
use Rattle.table.specs.Refusals.{rows, refuse, accepted, given, check_rows, head_reasons}
use Rattle.table.proofs.Heads.{long_head, good_head}
use Rattle.table.proofs.Faulty.{given_passes, given_refuses}
use Rattle.table.proofs.Exactly.{before_after}
use Rattle.row.proofs.Places.{room_in}
use Rattle.term.specs.Term.{is_array}
use Rattle.term.specs.Bytes.{look}
use Rattle.term.proofs.Rows.{sort_term}
use Rattle.judge.specs.Run.{LIMIT, room_reasons, limit_reasons, run_reasons, run_verdict}
use Rattle.judge.specs.Kept.{kept_wrong, kept_verdict}
use Rattle.judge.specs.Edit.{edit_reasons}
use Rattle.judge.specs.Ask.{pair_reasons, array_reasons, array_verdict}
use Rattle.judge.specs.Judge.{Holding, KeptThere, PairThere}
use Rattle.judge.proofs.Verdicts.{rows_pass, rows_after, head_numbered}
use Rattle.judge.proofs.Right.{kept_stops, kept_goes}
use Rattle.judge.proofs.Granted.{room_numbered, roomy, run_ready}

-- the number of a fault is the first of any longer list too
later : (xs ys : List Reason) (fault : Fault) → number_of fault ≡ first xs → number_of fault ≡ first (xs ++ ys)
later xs ys fault e = e ∙ sym (append_here xs ys (λ z. fault_some fault (e ∙ z)))

-- where there is none, the reasons that follow decide
onward : (xs ys : List Reason) → numbered xs ≡ true → 0 ≡ first xs → {answer : ℕ} → first ys ≡ answer → answer ≡ first (xs ++ ys)
onward xs ys k e f = sym (append_skips xs ys k (sym e) ∙ f)

-- 1 to 6
module _ (t buffer : List ℕ) where
  pub room_head : (fault : Fault) → number_of fault ≡ first (head_reasons t) → number_of fault ≡ first (room_reasons t buffer)
  unfolding room_reasons
  room_head fault e = later (head_reasons t) _ fault e

  pub room_short : 0 ≡ first (head_reasons t) → length buffer < length t → 6 ≡ first (room_reasons t buffer)
  unfolding room_reasons
  room_short e l = onward (head_reasons t) _ (head_numbered t) e (first_here 6 _ [] (lt-ltb (length buffer) (length t) l))

  pub room_enough : 0 ≡ first (head_reasons t) → length t ≤ length buffer → 0 ≡ first (room_reasons t buffer)
  unfolding room_reasons first
  room_enough e l = onward (head_reasons t) _ (head_numbered t) e (first_skips 6 _ [] (le-ltb (length buffer) (length t) l))

-- 19
pub limit_high : (limit : ℕ) → LIMIT < limit → 19 ≡ first (limit_reasons limit)
unfolding limit_reasons
limit_high limit l = sym (first_here 19 _ [] (lt-ltb LIMIT limit l))

pub limit_fine : (limit : ℕ) → limit ≤ LIMIT → 0 ≡ first (limit_reasons limit)
unfolding limit_reasons first
limit_fine limit l = sym (first_skips 19 _ [] (le-ltb LIMIT limit l))

-- a run
module _ (t buffer : List ℕ) (limit : ℕ) where
  pub run_room : (fault : Fault) → number_of fault ≡ first (room_reasons t buffer) → number_of fault ≡ first (run_reasons t buffer limit)
  unfolding run_reasons
  run_room fault e = later (room_reasons t buffer) _ fault e

  pub run_limited : 0 ≡ first (room_reasons t buffer) → {n : ℕ} → n ≡ first (limit_reasons limit) → n ≡ first (run_reasons t buffer limit)
  unfolding run_reasons
  run_limited e f = onward (room_reasons t buffer) _ (room_numbered t buffer) e (sym f)

  pub run_refused_lem : {number : ℕ} → number ≡ first (run_reasons t buffer limit) → (number ≡ 0 → ⊥) → ◌≡◌ {A = Verdict} (record { number = number; row = 0 }) (run_verdict t buffer limit)
  unfolding run_verdict refuse
  run_refused_lem e h = ap (λ (n : ℕ). refuse n 0) e ∙ sym (given_refuses (first (run_reasons t buffer limit)) 0 (check_rows t accepted) (λ z. h (e ∙ z)))

  pub head_passes : 0 ≡ first (run_reasons t buffer limit) → first (head_reasons t) ≡ 0
  head_passes e = (run_ready t buffer limit (sym e)).roomy.head

  pub run_judged : {v : Verdict} → 0 ≡ first (run_reasons t buffer limit) → v ≡ check_rows t accepted → v ≡ run_verdict t buffer limit
  unfolding run_verdict
  run_judged e f = f ∙ sym (given_passes (first (run_reasons t buffer limit)) 0 (check_rows t accepted) (sym e))

-- a table whose head passes has a header
pub header_there : (t buffer : List ℕ) → 0 ≡ first (room_reasons t buffer) → HEADER ≤ length t
header_there t buffer e = long_head t (roomy t buffer (sym e)).head

-- 7, 8 and 19 of an edit
module _ (t kept : List ℕ) (r : ℕ) (new : List ℕ) (limit : ℕ) where
  pub edit_room : (fault : Fault) → number_of fault ≡ first (room_reasons t kept) → number_of fault ≡ first (edit_reasons t kept r new limit)
  unfolding edit_reasons
  edit_room fault e = later (room_reasons t kept) _ fault e

  pub edit_row : 0 ≡ first (room_reasons t kept) → {n : ℕ} → n ≡ rows t → n ≤ r → 7 ≡ first (edit_reasons t kept r new limit)
  unfolding edit_reasons
  edit_row e is l = onward (room_reasons t kept) _ (room_numbered t kept) e (first_here 7 _ _ (le-leb (rows t) r (rw is at l)))

  pub edit_long : 0 ≡ first (room_reasons t kept) → {n : ℕ} → n ≡ rows t → r < n → (length new ≡ LENGTH → ⊥) → 8 ≡ first (edit_reasons t kept r new limit)
  unfolding edit_reasons
  edit_long e is l h =
      onward (room_reasons t kept) _ (room_numbered t kept) e
      (first_skips 7 _ _ (lt-leb (rows t) r (rw is at l)) ∙ first_here 8 _ _ (ap not (ne_eqb (length new) LENGTH h)))

  pub edit_limited : 0 ≡ first (room_reasons t kept) → {n : ℕ} → n ≡ rows t → r < n → length new ≡ LENGTH →
      {m : ℕ} → m ≡ first (limit_reasons limit) → m ≡ first (edit_reasons t kept r new limit)
  unfolding edit_reasons
  edit_limited e is l h f =
      onward (room_reasons t kept) _ (room_numbered t kept) e
      (first_skips 7 (leb (rows t) r) (8 when not (eqb (length new) LENGTH) ∷ limit_reasons limit) (lt-leb (rows t) r (rw is at l)) ∙
      first_skips 8 (not (eqb (length new) LENGTH)) (limit_reasons limit) (ap not (eq-eqb (length new) LENGTH h)) ∙ sym f)

-- 7 of a question
module _ (t buffer : List ℕ) (x y : ℕ) where
  pub pair_room : (fault : Fault) → number_of fault ≡ first (room_reasons t buffer) → number_of fault ≡ first (pair_reasons t buffer x y)
  unfolding pair_reasons
  pair_room fault e = later (room_reasons t buffer) _ fault e

  pub pair_first : 0 ≡ first (room_reasons t buffer) → {n : ℕ} → n ≡ rows t → n ≤ x → 7 ≡ first (pair_reasons t buffer x y)
  unfolding pair_reasons
  pair_first e is l = onward (room_reasons t buffer) _ (room_numbered t buffer) e (first_here 7 _ [] (or_true_left (leb (rows t) x) (leb (rows t) y) (le-leb (rows t) x (rw is at l))))

  pub pair_second : 0 ≡ first (room_reasons t buffer) → {n : ℕ} → n ≡ rows t → n ≤ y → 7 ≡ first (pair_reasons t buffer x y)
  unfolding pair_reasons
  pair_second e is l = onward (room_reasons t buffer) _ (room_numbered t buffer) e (first_here 7 _ [] (or_true_right (leb (rows t) x) (leb (rows t) y) (le-leb (rows t) y (rw is at l))))

  pub pair_fine : 0 ≡ first (room_reasons t buffer) → {n : ℕ} → n ≡ rows t → x < n → y < n → 0 ≡ first (pair_reasons t buffer x y)
  unfolding pair_reasons first
  pair_fine e is l m =
      onward (room_reasons t buffer) _ (room_numbered t buffer) e
      (first_skips 7 _ [] (or_false (leb (rows t) x) (leb (rows t) y) (lt-leb (rows t) x (rw is at l)) (lt-leb (rows t) y (rw is at m))))

pub array_told : (t : List ℕ) (x : ℕ) {kind : ℕ} {b : Bool} → kind ≡ (row_at t x).kind → b ≡ is_sort Array (sort_of kind) → b ≡ is_array (look t x)
unfolding look
array_told t x e f = f ∙ ap (λ (k : ℕ). is_sort Array (sort_of k)) e ∙ sym (sort_term (row_at t x))

-- ---- 9 to 15 and 18, then 16, then 14 of a question

accepted_number : accepted.number ≡ 0
unfolding accepted refuse
accepted_number = refl

module _ (t : List ℕ) {v : Verdict} (scanned : v ≡ check_rows t accepted) where
  -- a faulty row stops the check, whatever comes after
  pub rows_refused : (after : Verdict) → (v.number ≡ 0 → ⊥) → v ≡ check_rows t after
  rows_refused after h =
      scanned ∙ sym (before_after t after (λ e. h (ap (λ (u : Verdict). u.number) (scanned ∙ e) ∙ accepted_number)))

  -- where no row is faulty, what comes after is the verdict
  pub rows_onward : {after answer : Verdict} → v.number ≡ 0 → answer ≡ after → answer ≡ check_rows t after
  rows_onward {after} e f =
      f ∙ sym (rows_pass t accepted after (ap (λ (u : Verdict). u.number) (sym scanned) ∙ e))

module _ (t : List ℕ) (x y : ℕ) where
  pub first_array : {b : Bool} → b ≡ is_array (look t x) → b ≡ true → ◌≡◌ {A = Verdict} (record { number = 14; row = x }) (array_verdict t x y)
  unfolding array_verdict array_reasons given refuse first
  first_array e h = sym (rw (sym e ∙ h))

  pub second_array : {b c : Bool} → b ≡ is_array (look t x) → b ≡ false → c ≡ is_array (look t y) → c ≡ true → ◌≡◌ {A = Verdict} (record { number = 14; row = y }) (array_verdict t x y)
  unfolding array_verdict array_reasons given refuse first
  second_array e h f i = sym (rw (sym e ∙ h, sym f ∙ i))

  pub no_array : {b c : Bool} → b ≡ is_array (look t x) → b ≡ false → c ≡ is_array (look t y) → c ≡ false → ◌≡◌ {A = Verdict} (record { number = 0; row = 0 }) (array_verdict t x y)
  unfolding array_verdict array_reasons given accepted refuse first
  no_array e h f i = sym (rw (sym e ∙ h, sym f ∙ i))

module _ (t part : List ℕ) {b : Bool} (told : b ≡ kept_wrong t part) where
  pub kept_refused : b ≡ true → ◌≡◌ {A = Verdict} (record { number = 16; row = 0 }) (kept_verdict t part accepted)
  unfolding refuse
  kept_refused e = sym (kept_stops t part accepted (sym told ∙ e))

  pub kept_passes : b ≡ false → ◌≡◌ {A = Verdict} (record { number = 0; row = 0 }) (kept_verdict t part accepted)
  unfolding accepted refuse
  kept_passes e = sym (kept_goes t part accepted (sym told ∙ e))

module _ (t part : List ℕ) {v : Verdict} (judged : v ≡ check_rows t (kept_verdict t part accepted)) where
  -- a faulty row, or 16, is given whatever comes after
  pub both_refused : (after : Verdict) → (v.number ≡ 0 → ⊥) → v ≡ check_rows t (kept_verdict t part after)
  both_refused after h =
      test_case (kept_wrong t part)
      (λ (wrong : kept_wrong t part ≡ true). judged ∙ ap (check_rows t) (kept_stops t part accepted wrong ∙ sym (kept_stops t part after wrong)))
      (λ (right : kept_wrong t part ≡ false).
      rows_refused t (judged ∙ ap (check_rows t) (kept_goes t part accepted right)) after h ∙ ap (check_rows t) (sym (kept_goes t part after right)))

  -- where neither is, what comes after is the verdict
  pub both_onward : {after answer : Verdict} → v.number ≡ 0 → answer ≡ after → answer ≡ check_rows t (kept_verdict t part after)
  unfolding refuse
  both_onward {after} e f =
      let z : (check_rows t (kept_verdict t part accepted)).number ≡ 0 = ap (λ (u : Verdict). u.number) (sym judged) ∙ e in
      test_case (kept_wrong t part)
      (λ (wrong : kept_wrong t part ≡ true).
      absurd (omega (arith, ap (λ (u : Verdict). u.number) (sym (kept_stops t part accepted wrong)) ∙ rows_after t (kept_verdict t part accepted) z)))
      (λ (right : kept_wrong t part ≡ false).
      f ∙ sym (kept_goes t part after right) ∙ sym (rows_pass t (kept_verdict t part accepted) (kept_verdict t part after) z))

pub kept_holding : {t kept : List ℕ} → KeptThere t kept → Holding t kept
kept_holding {t} at = record { size = (good_head t at.head).size; room = at.room }

module _ {t kept : List ℕ} {x y : ℕ} (at : PairThere t kept x y) where
  pub pair_kept : KeptThere t kept
  pair_kept = at.there

  pub pair_place : place x + LENGTH ≤ length t
  pair_place = room_in t at.first_row (kept_holding at.there).size

  pub pair_place_second : place y + LENGTH ≤ length t
  pair_place_second = room_in t at.second_row (kept_holding at.there).size
