-- A row whose fields are in order has no fault.
use Prim.Native.Nat.{ℕ, zero, suc, ◌+◌, ◌-◌, ◌^◌, ◌≤◌, ◌<◌}
use native.Mathlib.Omega.{arith}
use mathlib.Core.Path.{◌≡◌, sym, ap, ◌∙◌}
use mathlib.Core.Bool.{Bool, true, false, false≢true, ◌&&◌}
use mathlib.Core.List.{List}
use lib.Dec.{leb, ltb, eqb}
use lib.ListN.{length}
use lib.Pow.{pow_pos}
use borrow.Author.Tests.{leb-true, ltb-true, eqb-true, ne_eqb}
use Rattle.basis.proofs.Pick.{and_left, and_right}
use Rattle.row.specs.declared.Row.{Row}
use Rattle.row.specs.Names.{LENGTH, CONST, VAR, SHIFT, SUM, DIFF, NEG, READ, FRESH, WRITE, place}
use Rattle.row.specs.Bytes.{row_at, mark_wrong}
use Rattle.row.proofs.Places.{room_below}
use Rattle.names.specs.First.{name_of, name_at}
use Rattle.names.proofs.First.{nameless_first}
use Rattle.table.specs.declared.Uses.{Uses}
use Rattle.table.specs.declared.Use.{Use}
use Rattle.table.specs.declared.Use.TheVariants.{Unused, Name, Refers, Other}
use Rattle.table.specs.Uses.{sort_of, is_used, is_reference, refers_to, uses_of}
use Rattle.table.specs.Refusals.{reference, use_at, other_bounds, row_fault}
use Rattle.table.specs.Accepted.{GoodRow}
use Rattle.table.proofs.Fields.{same_bounds, refers_true}
use Rattle.table.proofs.Accepts.{row_good}
use Rattle.table.proofs.Exactly.{passes_row}
use Rattle.clean.specs.Clean.{number_clean, field_clean, row_clean, Asked, NoFault}

-- ---- a number

module _ (w : ℕ) (v : ℕ) where
  pub used_number : {top : ℕ} {used : Bool} → used ≡ true → top ≡ 2 ^ w - 1 → leb v top ≡ number_clean w used v
  unfolding number_clean
  used_number e top_is = rw (e, top_is)

  pub unused_number : {used : Bool} → used ≡ false → eqb v 0 ≡ number_clean w used v
  unfolding number_clean
  unused_number e = rw e

  number_word : {used : Bool} → number_clean w used v ≡ true → used ≡ true → v < 2 ^ w
  unfolding number_clean
  number_word clean e = let low : v ≤ 2 ^ w - 1 = leb-true v (2 ^ w - 1) (rw e at clean) in omega (arith, pow_pos w)

  number_zero : {used : Bool} → number_clean w used v ≡ true → used ≡ false → v ≡ 0
  unfolding number_clean
  number_zero clean e = eqb-true v 0 (rw e at clean)

-- ---- a reference field

pub early_room : (t : List ℕ) (r at : ℕ) → at < r → place r ≤ length t → place at + LENGTH ≤ length t
early_room t r at early room = omega (arith, room_below early)

module _ (t : List ℕ) (r : ℕ) (used : Use) (at : ℕ) (clean : field_clean t r used at ≡ true) where
  names_row : is_reference used ≡ true → (ltb at r && refers_to (sort_of (row_at t at).kind) used) ≡ true
  unfolding field_clean
  names_row e = rw e at clean

  field_below : is_reference used ≡ true → at < r
  field_below e = ltb-true at r (and_left (ltb at r) _ (names_row e))

  field_sort : is_reference used ≡ true → Refers (sort_of (row_at t at).kind) ≡ used
  field_sort e = refers_true _ _ (and_right (ltb at r) _ (names_row e))

field_zero : (t : List ℕ) (r : ℕ) (used : Use) (at : ℕ) → field_clean t r used at ≡ true → is_used used ≡ false → at ≡ 0
unfolding field_clean is_reference is_used
field_zero t r Unused at clean e = eqb-true at 0 clean
field_zero t r Name at clean e = cc
field_zero t r (Refers sort) at clean e = cc
field_zero t r (Other n) at clean e = cc

-- ---- a row

module _ (t : List ℕ) (w r : ℕ) (x : Row) (asked : Asked t w r x) where
  pub all_fields : (kind : ℕ) (u : Uses) {k h a b c : Bool} → u ≡ uses_of kind → k ≡ number_clean w u.k x.k → h ≡ number_clean w u.h x.h
      → a ≡ field_clean t r u.a x.a → b ≡ field_clean t r u.b x.b → c ≡ field_clean t r u.c x.c
      → (k && h && a && b && c) ≡ row_clean t w r (uses_of kind) x
  unfolding row_clean
  all_fields kind u u_is k_is h_is a_is b_is c_is = rw (k_is, h_is, a_is, b_is, c_is, u_is)

  pub row_here : place r ≤ length t
  row_here = let room : place r + LENGTH ≤ length t = asked.within in omega arith

  module _ (marked : mark_wrong t (place r) ≡ false) (low : 1 ≤ x.kind) (high : x.kind ≤ 9) (plain : x.kind ≡ VAR → ⊥) where
    nameless : name_at t r ≡ 0
    unfolding name_at name_of
    nameless = rw (← asked.is_row, ne_eqb x.kind VAR plain)

    module _ (clean : row_clean t w r (uses_of x.kind) x ≡ true) where
      u : Uses
      u = uses_of x.kind

      number_k : Bool
      number_k = number_clean w u.k x.k

      number_h : Bool
      number_h = number_clean w u.h x.h

      field_at : ℕ → Bool
      field_at f = field_clean t r (use_at u f) (reference x f)

      up_to_b : (number_k && number_h && field_at 0 && field_at 1) ≡ true
      unfolding row_clean u number_k number_h field_at use_at reference
      up_to_b = and_left _ (field_at 2) clean

      up_to_a : (number_k && number_h && field_at 0) ≡ true
      up_to_a = and_left _ (field_at 1) up_to_b

      numbers : (number_k && number_h) ≡ true
      numbers = and_left _ (field_at 0) up_to_a

      each : (f : ℕ) → f < 3 → field_at f ≡ true
      unfolding row_clean u number_k number_h field_at use_at reference
      each zero l = and_right (number_k && number_h) (field_at 0) up_to_a
      each (suc zero) l = and_right (number_k && number_h && field_at 0) (field_at 1) up_to_b
      each (suc (suc zero)) l = and_right (number_k && number_h && field_at 0 && field_at 1) (field_at 2) clean
      each (suc (suc (suc f))) l = absurd (omega arith)

      good : GoodRow t r x (uses_of x.kind)
      unfolding u number_k number_h field_at
      good =
          record {
            marked = marked;
            kind_low = low;
            kind_high = high;
            unused_zero = λ f l e. field_zero t r (use_at u f) (reference x f) (each f l) e;
            unused_k = λ e. number_zero w x.k (and_left number_k number_h numbers) e;
            unused_h = λ e. number_zero w x.h (and_right number_k number_h numbers) e;
            k_word = λ e. rw (← asked.is_width) (number_word w x.k (and_left number_k number_h numbers) e);
            h_word = λ e. rw (← asked.is_width) (number_word w x.h (and_right number_k number_h numbers) e);
            below = λ f l e. field_below t r (use_at u f) (reference x f) (each f l) e;
            sort = λ f l e. field_sort t r (use_at u f) (reference x f) (each f l) e;
            bounds = λ e. absurd (plain e);
            agrees = ap (λ (y : ℕ). other_bounds x (row_at t y)) (nameless_first (name_at t) r nameless) ∙ ap (other_bounds x) (sym asked.is_row) ∙ same_bounds x;
          }

      no_fault : row_fault t r ≡ 0
      no_fault = passes_row t r (rw (← asked.is_row) (row_good t r x good))

  -- in the arm of a kind
  abbrev pub Told : ℕ → Bool → Bool → Type 0
  Told kind mark clean = mark ≡ mark_wrong t (place r) → mark ≡ false → x.kind ≡ kind → clean ≡ row_clean t w r (uses_of kind) x → NoFault t r clean

  told : (kind : ℕ) {mark clean : Bool} → 1 ≤ kind → kind ≤ 9 → (kind ≡ VAR → ⊥) → Told kind mark clean
  told kind low high plain mark_is right is clean_is =
      let marked : mark_wrong t (place r) ≡ false = sym mark_is ∙ right in
      let low_x : 1 ≤ x.kind = rw is low in
      let high_x : x.kind ≤ 9 = rw is high in
      let plain_x : x.kind ≡ VAR → ⊥ = λ e. plain (sym is ∙ e) in
      record {
        fault = λ e. no_fault marked low_x high_x plain_x (ap (λ (k : ℕ). row_clean t w r (uses_of k) x) is ∙ sym clean_is ∙ e);
        name = λ e. nameless marked low_x high_x plain_x;
      }

  pub const_told : {mark clean : Bool} → Told CONST mark clean
  const_told = told CONST (omega arith) (omega arith) (λ e. omega arith)

  pub shift_told : {mark clean : Bool} → Told SHIFT mark clean
  shift_told = told SHIFT (omega arith) (omega arith) (λ e. omega arith)

  pub sum_told : {mark clean : Bool} → Told SUM mark clean
  sum_told = told SUM (omega arith) (omega arith) (λ e. omega arith)

  pub diff_told : {mark clean : Bool} → Told DIFF mark clean
  diff_told = told DIFF (omega arith) (omega arith) (λ e. omega arith)

  pub neg_told : {mark clean : Bool} → Told NEG mark clean
  neg_told = told NEG (omega arith) (omega arith) (λ e. omega arith)

  pub read_told : {mark clean : Bool} → Told READ mark clean
  read_told = told READ (omega arith) (omega arith) (λ e. omega arith)

  pub fresh_told : {mark clean : Bool} → Told FRESH mark clean
  fresh_told = told FRESH (omega arith) (omega arith) (λ e. omega arith)

  pub write_told : {mark clean : Bool} → Told WRITE mark clean
  write_told = told WRITE (omega arith) (omega arith) (λ e. omega arith)

pub not_told : (t : List ℕ) (r : ℕ) → NoFault t r false
not_told t r = record { fault = λ e. absurd (false≢true e); name = λ e. absurd (false≢true e) }
