-- The ways out of what a row states, of the search, and of the slots.
use Prim.Native.Nat.{ℕ, suc, ◌+◌, ◌-◌, ◌%◌, ◌≤◌, ◌<◌}
use native.Mathlib.Nat.{eq-or-lt_of_le}
use native.Mathlib.Omega.{arith}
use native.Mathlib.Decide.{dec_lt, ℕ_discrete}
use mathlib.Core.Path.{◌≡◌, refl, sym, ap, subst, ◌∙◌}
use mathlib.Core.Logic.{dite, ⊎_elim}
use mathlib.Core.List.{List}
use lib.ListN.{length, get_or, set, replicate, length-replicate, get_or-replicate, get_or-eq_default}
use lib.Seq.{get_or-set_same, get_or-set_other}
use lib.Bits.{bit_and, and_mask}
use lib.Dec.{eqb}
use mir.Syntax.{w16, w64}
use mir.Val.{Fits}
use borrow.Author.Tests.{eq-eqb, ne_eqb}
use Rattle.basis.proofs.Pick.{pick_true, pick_false}
use Rattle.in_bytes.specs.Numbers.{byte, number, Read}
use Rattle.row.specs.Names.{LENGTH, VAR, KIND, A, place}
use Rattle.row.specs.Bytes.{row_from, row_at}
use Rattle.row.proofs.Places.{room_below}
use Rattle.names.specs.First.{name_of, name_from, name_at, first_named, first_of}
use Rattle.names.specs.Slots.{Slots, Slotted, CanFind, Found}
use Rattle.names.proofs.First.{first_found, first_none, first_of_low, nameless_first, named_first, first_of_found, first_of_first, first_of_least}

-- ---- what a row states

pub name_at_lem : (t : List ℕ) (r : ℕ) → name_at t r ≡ name_from t (place r)
unfolding name_at name_from row_at
name_at_lem t r = refl

module _ (t : List ℕ) (at : ℕ) where
  pub nameless_kind : (byte t (at + KIND) ≡ VAR → ⊥) → Read (name_from t at) 65536 0
  unfolding name_from name_of row_from
  nameless_kind other = record { is = sym (pick_false (eqb (byte t (at + KIND)) VAR) (number 2 t (at + A)) 0 (ne_eqb _ VAR other)); below = omega arith }

  pub variable_name : {name : ℕ} → byte t (at + KIND) ≡ VAR → Read (number 2 t (at + A)) 65536 name → Read (name_from t at) 65536 name
  unfolding name_from name_of row_from
  variable_name e read =
      record { is = read.is ∙ sym (pick_true (eqb (byte t (at + KIND)) VAR) (number 2 t (at + A)) 0 (eq-eqb _ VAR e)); below = read.below }

pub named_at : (t : List ℕ) (r : ℕ) {at name : ℕ} → at ≡ place r → Read (name_from t at) 65536 name → Read (name_at t r) 65536 name
named_at t r e read = record { is = read.is ∙ ap (name_from t) e ∙ sym (name_at_lem t r); below = read.below }

-- ---- the search

-- no row below y states the name
pub record Searching (t : List ℕ) (name n y : ℕ) : Type 0 where
  pub upto : y ≤ n
  pub none : (z : ℕ) → z < y → name_at t z ≡ name → ⊥

pub begun : (t : List ℕ) (name n : ℕ) → Searching t name n 0
begun t name n = record { upto = omega arith; none = λ z l. absurd (omega arith) }

module _ (t : List ℕ) (name n y : ℕ) (search : Searching t name n y) where
  pub not_found : n ≤ y → n ≡ first_named (name_at t) name n
  not_found all = sym (first_none (name_at t) name n (λ z l. search.none z (omega arith)))

  module _ (more : y < n) where
    pub row_there : place n ≤ length t → place y + LENGTH ≤ length t
    row_there room = omega (arith, room_below more)

    module _ {here : ℕ} (read : Read (name_at t y) 65536 here) where
      pub found_here : here ≡ name → y ≡ first_named (name_at t) name n
      found_here e = sym (first_found (name_at t) name n y more (sym read.is ∙ e) search.none)

      pub not_here : (here ≡ name → ⊥) → Searching t name n (y + 1)
      not_here other =
          record {
            upto = omega arith;
            none = λ z l e.
                ⊎_elim
                (λ (same : z ≡ y). other (read.is ∙ ap (name_at t) (sym same) ∙ e))
                (λ (below : z < y). search.none z below e)
                (eq-or-lt_of_le (let low : z ≤ y = omega arith in low));
          }

-- ---- the slots

pub zeros : (n i : ℕ) → ◌≡◌ {A = ℕ} (get_or (replicate n 0) i 0) 0
zeros n i =
    dite (dec_lt i n)
    (λ (l : i < n). get_or-replicate n i 0 0 l)
    (λ (l : i < n → ⊥). get_or-eq_default (replicate n 0) 0 {n = i} (rw (length-replicate {A = ℕ} n 0) (let high : n ≤ i = omega arith in high)))

-- before the first row is asked for
pub no_slots : (t : List ℕ) → Slots t (replicate 256 0) 0
no_slots t =
    record {
      low = λ s. rw (zeros 256 s) (let none : 0 ≤ 0 = omega arith in none);
      first = λ s y e. absurd (let none : 0 ≡ suc y = sym (zeros 256 s) ∙ e in omega arith);
      none = λ y l. absurd (omega arith);
    }

-- by what the slot has
module _ (t : List ℕ) (name r kept : ℕ) (slot : Slotted t name r kept) where
  -- no row before has a name of the slot
  pub slot_free : kept ≡ 0 → r ≡ first_of (name_at t) r
  slot_free e = sym (first_of_found (name_at t) r slot.named r (omega arith) refl (λ z l d. slot.none e z l (d ∙ sym slot.states)))

  -- a row before, the first of its name, has the slot
  module _ (filled : kept ≡ 0 → ⊥) where
    pub kept_there : place (kept - 1) + LENGTH ≤ length t
    kept_there = let l : kept - 1 < r = let h : kept ≤ r = slot.low in omega arith in omega (arith, room_below l, slot.here)

    pub slot_found : {other : ℕ} → Read (name_at t (kept - 1)) 65536 other → other ≡ name → kept - 1 ≡ first_of (name_at t) r
    slot_found read e =
        let same : name_at t (kept - 1) ≡ name_at t r = sym read.is ∙ e ∙ slot.states in
        let own : first_of (name_at t) (kept - 1) ≡ kept - 1 = slot.first (kept - 1) (let filled-by : kept ≡ suc (kept - 1) = omega arith in filled-by) in
        sym (first_of_found (name_at t) r slot.named (kept - 1) (let l : kept ≤ r = slot.low in omega arith) same
        (λ z below d. first_of_least (name_at t) (kept - 1) (λ none. slot.named (sym same ∙ none)) z (rw own below) (d ∙ sym same)))

  pub searched_found : {first : ℕ} → first ≡ first_named (name_at t) name r → first ≡ first_of (name_at t) r
  searched_found e = e ∙ ap (λ (k : ℕ). first_named (name_at t) k r) slot.states ∙ sym (named_first (name_at t) r slot.named)

-- the number of row r, or of one above, and one more
pub low_first : (t : List ℕ) (r : ℕ) {first : ℕ} → first ≡ first_of (name_at t) r → first ≤ r
low_first t r is = rw is (first_of_low (name_at t) r)

module _ (t slots : List ℕ) (r : ℕ) (can : CanFind t slots r) {y more : ℕ} (low : y ≤ r) (few : more ≤ 1) where
  pub next_fits : Fits w64 (y + more)
  next_fits = record { fits = omega (arith, can.few) }

  pub next_slots : Fits w16 (y + more)
  next_slots = record { fits = omega (arith, can.few) }

-- a row without a name leaves the slots as they are
pub nameless_slots : (t slots : List ℕ) (r : ℕ) → Slots t slots r → name_at t r ≡ 0 → Slots t slots (suc r)
nameless_slots t slots r valid none =
    record {
      low = λ s. let low : get_or slots s 0 ≤ r = valid.low s in omega arith;
      first = valid.first;
      none = λ y l.
          ⊎_elim
          (λ (same : y ≡ r) named. absurd (named (ap (name_at t) same ∙ none)))
          (λ (below : y < r). valid.none y below)
          (eq-or-lt_of_le (let low : y ≤ r = omega arith in low));
    }

module _ (t slots : List ℕ) (r : ℕ) (can : CanFind t slots r) {name : ℕ} (read : Read (name_at t r) 65536 name) where
  pub nameless_found : name ≡ 0 → Found t r r slots
  nameless_found e =
      let none : name_at t r ≡ 0 = sym read.is ∙ e in
      record { is = sym (nameless_first (name_at t) r none); valid = nameless_slots t slots r can.valid none }

  -- a row with a name has its first put into the slot of the name
  module _ (some : name ≡ 0 → ⊥) where
    slot_is : bit_and name 255 ≡ name_at t r % 256
    slot_is = and_mask name 8 ∙ ap (λ (k : ℕ). k % 256) read.is

    pub slot_asked : Slotted t name r (get_or slots (bit_and name 255) 0)
    slot_asked =
        record {
          here = can.here;
          named = λ e. some (read.is ∙ e);
          states = read.is;
          low = can.valid.low (bit_and name 255);
          first = can.valid.first (bit_and name 255);
          none = λ free y l e.
              can.valid.none y l (λ z. some (sym e ∙ z))
              (ap (λ (k : ℕ). get_or slots (k % 256) 0) (e ∙ read.is) ∙ ap (λ (s : ℕ). get_or slots s 0) (sym slot_is) ∙ free);
        }

    module _ (long : length slots ≡ 256) {first : ℕ} (is : first ≡ first_of (name_at t) r) where
      first_low : first ≤ r
      first_low = low_first t r is

      abbrev after : List ℕ
      after = set slots (name_at t r % 256) (first + 1)

      there : name_at t r % 256 < length slots
      there = omega (arith, long)

      here : get_or after (name_at t r % 256) 0 ≡ first + 1
      here = get_or-set_same slots (name_at t r % 256) (first + 1) 0 there

      elsewhere : (s : ℕ) → (s ≡ name_at t r % 256 → ⊥) → get_or after s 0 ≡ get_or slots s 0
      elsewhere s h = get_or-set_other slots (name_at t r % 256) s (first + 1) 0 h

      kept_first : Slots t after (suc r)
      kept_first =
          record {
            low = λ s.
                dite (ℕ_discrete s (name_at t r % 256))
                (λ (e : s ≡ name_at t r % 256). rw (e, here) (let l : first ≤ r = first_low in let up : first + 1 ≤ suc r = omega arith in up))
                (λ (h : s ≡ name_at t r % 256 → ⊥). let low : get_or slots s 0 ≤ r = can.valid.low s in omega (arith, elsewhere s h));
            first = λ s y e.
                dite (ℕ_discrete s (name_at t r % 256))
                (λ (d : s ≡ name_at t r % 256).
                let told : first + 1 ≡ suc y = sym here ∙ ap (λ (i : ℕ). get_or after i 0) (sym d) ∙ e in
                let same : first_of (name_at t) r ≡ y = sym is ∙ (let up : first ≡ y = omega arith in up) in
                subst (λ (i : ℕ). first_of (name_at t) i ≡ i) same (first_of_first (name_at t) r))
                (λ (h : s ≡ name_at t r % 256 → ⊥). can.valid.first s y (sym (elsewhere s h) ∙ e));
            none = λ y l named empty.
                dite (ℕ_discrete (name_at t y % 256) (name_at t r % 256))
                (λ (d : name_at t y % 256 ≡ name_at t r % 256).
                let told : first + 1 ≡ 0 = sym here ∙ ap (λ (i : ℕ). get_or after i 0) (sym d) ∙ empty in
                omega arith)
                (λ (h : name_at t y % 256 ≡ name_at t r % 256 → ⊥).
                ⊎_elim
                (λ (e : y ≡ r). h (ap (λ (i : ℕ). name_at t i % 256) e))
                (λ (below : y < r). can.valid.none y below named (sym (elsewhere (name_at t y % 256) h) ∙ empty))
                (eq-or-lt_of_le (let low : y ≤ r = omega arith in low)));
          }

      pub named_found : Found t r first (set slots (bit_and name 255) (first + 1))
      named_found = record { is = is; valid = rw slot_is kept_first }
