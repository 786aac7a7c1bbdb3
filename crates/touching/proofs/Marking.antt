-- Marking: what a row names, by the fields that its kind uses; the names that row r led and leads; and the loop, after which the touched rows are marked.
use Prim.Native.Nat.{ℕ, ◌+◌, ◌≤◌, ◌<◌}
use native.Mathlib.Nat.{le_refl}
use native.Mathlib.Omega.{arith}
use native.Mathlib.Decide.{dec_lt}
use mathlib.Core.Path.{◌≡◌, refl, ap, ap₂, sym, fun_ext, ◌∙◌}
use mathlib.Core.Bool.{Bool, true, false, ◌&&◌, ◌||◌, false≢true}
use mathlib.Core.Logic.{dite}
use mathlib.Core.List.{List}
use lib.Dec.{eqb}
use lib.ListN.{length}
use borrow.Author.Tests.{eq-eqb, ne_eqb}
use Rattle.basis.proofs.Pick.{or_none, pick_true, pick_false}
use Rattle.basis.specs.Count.{count_where}
use Rattle.basis.proofs.Counts.{count_same}
use Rattle.in_bytes.specs.Numbers.{Read}
use Rattle.row.specs.declared.Row.{Row}
use Rattle.row.specs.Names.{VAR, LENGTH, place}
use Rattle.row.specs.Bytes.{row, row_from, row_at, Decoded}
use Rattle.row.proofs.Places.{room_in}
use Rattle.row.proofs.Rows.{row_new}
use Rattle.names.specs.First.{name_of, name_from, name_at, first_named}
use Rattle.table.specs.declared.Uses.{Uses}
use Rattle.table.specs.declared.Use.{Use}
use Rattle.table.specs.declared.Use.TheVariants.{Unused, Name}
use Rattle.table.specs.Uses.{is_reference, uses_of}
use Rattle.table.specs.Refusals.{MOST, rows}
use Rattle.term.specs.Term.{term_of, stated_by, any_named}
use Rattle.term.specs.WellFormed.{Names}
use Rattle.term.specs.Bytes.{look, edited}
use Rattle.term.proofs.Rows.{kind_case, stated_term}
use Rattle.term.proofs.Names.{NamesBelow, names_widen, any_named_local}
use Rattle.term.proofs.WellFormed.{formed_below}
use Rattle.term.proofs.Looked.{edited_others, look_states}
use Rattle.term.proofs.Accepted.{accepted_formed}
use Rattle.marks.specs.Marks.{marked, ones_of, Remarked}
use Rattle.touching.specs.Touched.{leading, follows, touched_with, HasMark, Named, Reached, CanMark, Marked}
use Rattle.marks.proofs.Marking.{rows_below}
use Rattle.touching.proofs.Following.{touched_told}

-- ---- what a row names

-- one of the fields that refer to a row passes
abbrev any_used : (ℕ → Bool) → Uses → Row → Bool
any_used test u x = (is_reference u.a && test x.a) || (is_reference u.b && test x.b) || (is_reference u.c && test x.c)

any_used_lem : (test : ℕ → Bool) (x : Row) → 1 ≤ x.kind → x.kind ≤ 9 → any_named test (term_of x) ≡ any_used test (uses_of x.kind) x
unfolding any_named term_of is_reference uses_of
any_used_lem test x low high =
    kind_case Same
    (λ a b c k h. refl)
    (λ a b c k h. refl)
    (λ a b c k h. sym (or_none (test a || false) ∙ or_none (test a)))
    (λ a b c k h. sym (or_none (test a || test b)))
    (λ a b c k h. sym (or_none (test a || test b)))
    (λ a b c k h. sym (or_none (test a || false) ∙ or_none (test a)))
    (λ a b c k h. sym (or_none (test a || test b)))
    (λ a b c k h. refl)
    (λ a b c k h. refl)
    x.kind low high x.a x.b x.c x.k x.h
  where
    Same : ℕ → Type 0
    Same kind = (a b c k h : ℕ) → any_named test (term_of (row kind a b c k h)) ≡ any_used test (uses_of kind) (row kind a b c k h)

-- what the fields refer to has a mark
record Fields (u : Uses) (x : Row) : Type 0 where
  a : HasMark u.a x.a
  b : HasMark u.b x.b
  c : HasMark u.c x.c

unused : {x : ℕ} → HasMark Unused x
unfolding is_reference
unused = record { below = λ u. absurd (false≢true u) }

name : {x : ℕ} → HasMark Name x
unfolding is_reference
name = record { below = λ u. absurd (false≢true u) }

used : {k : Use} {x : ℕ} → x < MOST → HasMark k x
used l = record { below = λ u. l }

fields : (x : Row) → Named x → Fields (uses_of x.kind) x
unfolding term_of uses_of
fields x named =
    kind_case Has
    (λ a b c k h n. record { a = unused; b = unused; c = unused })
    (λ a b c k h n. record { a = name; b = unused; c = unused })
    (λ a b c k h n. record { a = used n; b = unused; c = unused })
    (λ a b c k h n. record { a = used n.0; b = used n.1; c = unused })
    (λ a b c k h n. record { a = used n.0; b = used n.1; c = unused })
    (λ a b c k h n. record { a = used n; b = unused; c = unused })
    (λ a b c k h n. record { a = used n.0; b = used n.1; c = unused })
    (λ a b c k h n. record { a = unused; b = unused; c = unused })
    (λ a b c k h n. record { a = used n.0; b = used n.1; c = used n.2 })
    x.kind named.kind_low named.kind_high x.a x.b x.c x.k x.h named.names
  where
    Has : ℕ → Type 0
    Has kind = (a b c k h : ℕ) → Names (λ array y. y < MOST) (term_of (row kind a b c k h)) → Fields (uses_of kind) (row kind a b c k h)

-- ---- what is asked of each field, and what the three tell

module _ (marks : List ℕ) (x : Row) {u : Uses} (is : u ≡ uses_of x.kind) where
  module _ (named : Named x) where
    pub asks_a : HasMark u.a x.a
    asks_a = rw is (fields x named).a

    pub asks_b : HasMark u.b x.b
    asks_b = rw is (fields x named).b

    pub asks_c : HasMark u.c x.c
    asks_c = rw is (fields x named).c

  abbrev hit : Use → ℕ → Bool
  hit kind y = is_reference kind && marked marks y

  pub names : Named x → any_named (marked marks) (term_of x) ≡ (hit u.a x.a || hit u.b x.b || hit u.c x.c)
  names named = any_used_lem (marked marks) x named.kind_low named.kind_high ∙ ap (λ (v : Uses). any_used (marked marks) v x) (sym is)

variable_bare : (test : ℕ → Bool) (y : Row) → y.kind ≡ VAR → any_named test (term_of y) ≡ false
unfolding any_named term_of
variable_bare test y v = rw v

nameless : (was is : ℕ) → follows was is 0 ≡ false
unfolding follows
nameless was is = refl

-- a row is told by what it states and by the rows that it names
module _ (t marks : List ℕ) (r was is x : ℕ) where
  abbrev test : Bool
  test = eqb x r || follows was is (name_at t x) || any_named (marked marks) (look t x)

  pub touches_itself : x ≡ r → true ≡ test
  touches_itself e = rw (eq-eqb x r e)

  module _ (other : x ≡ r → ⊥) {y : Row} (d : Decoded t x y) where
    -- a VAR names no row
    pub touches_variable : {b : Bool} → y.kind ≡ VAR → b ≡ follows was is y.a → b ≡ test
    unfolding look name_at name_of
    touches_variable v e =
        let name : name_at t x ≡ y.a = ap name_of (sym d.is) ∙ pick_true (eqb y.kind VAR) y.a 0 (eq-eqb _ VAR v) in
        let none : any_named (marked marks) (look t x) ≡ false = ap (λ (z : Row). any_named (marked marks) (term_of z)) (sym d.is) ∙ variable_bare (marked marks) y v in
        e ∙ sym (ap₂ ◌||◌ (ap₂ ◌||◌ (ne_eqb x r other) (ap (follows was is) name)) none ∙ or_none (follows was is y.a))

    -- and no other row states a name
    pub touches_named : {b : Bool} → (y.kind ≡ VAR → ⊥) → b ≡ any_named (marked marks) (term_of y) → b ≡ test
    unfolding look name_at name_of
    touches_named h e =
        let name : name_at t x ≡ 0 = ap name_of (sym d.is) ∙ pick_false (eqb y.kind VAR) y.a 0 (ne_eqb _ VAR h) in
        e ∙ sym (ap₂ ◌||◌ (ap₂ ◌||◌ (ne_eqb x r other) (ap (follows was is) name ∙ nameless was is))
        (ap (λ (z : Row). any_named (marked marks) (term_of z)) (sym d.is)))

pub decoded_named : (t : List ℕ) (x : ℕ) (y : Row) → Reached t x → Decoded t x y → Named y
decoded_named t x y at d = rw d.is at.named

-- ---- the names that r led and leads

pub record Leads (T old : List ℕ) (r was is : ℕ) : Type 0 where
  pub before : was ≡ leading (name_at T) (name_from old 0) r
  pub after : is ≡ leading (name_at T) (name_at T r) r

pub leads_it : (names : ℕ → ℕ) (name r : ℕ) {first : ℕ} → first ≡ first_named names name r → first ≡ r → name ≡ leading names name r
unfolding leading
leads_it names name r e same = sym (pick_true (eqb (first_named names name r) r) name 0 (eq-eqb _ r (sym e ∙ same)))

pub leads_none : (names : ℕ → ℕ) (name r : ℕ) {first : ℕ} → first ≡ first_named names name r → (first ≡ r → ⊥) → 0 ≡ leading names name r
unfolding leading
leads_none names name r e other = sym (pick_false (eqb (first_named names name r) r) name 0 (ne_eqb _ r (λ same. other (e ∙ same))))

-- the table as it stood differs from the edited one in row r alone
module _ (T old : List ℕ) (r : ℕ) (long : length old ≡ LENGTH) where
  look_stays : (x : ℕ) → (x ≡ r → ⊥) → look (edited T r old) x ≡ look T x
  look_stays x other = sym (edited_others T r old long x other)

  stated_old : place r + LENGTH ≤ length T → stated_by (look (edited T r old) r) ≡ name_from old 0
  unfolding look edited name_from
  stated_old room = ap (λ (x : Row). stated_by (term_of x)) (row_new T r old long room) ∙ stated_term (row_from old 0)

  module _ (room : place r + LENGTH ≤ length T) (low : NamesBelow (look T)) {was is : ℕ} (leads : Leads T old r was is) where
    states : (λ y. stated_by (look T y)) ≡ name_at T
    states = fun_ext (look_states T)

    -- a row is touched as one pass over the edited table tells
    touched_told_by : (x : ℕ) → touched_with T old r x ≡ (eqb x r || follows was is (name_at T x) || any_named (touched_with T old r) (look T x))
    touched_told_by x =
        touched_told (look (edited T r old)) (look T) r look_stays low x ∙
        ap (λ (b : Bool). eqb x r || b || any_named (touched_with T old r) (look T x))
        (ap₂ (λ (before after : ℕ). follows before after (stated_by (look T x)))
        (ap₂ (λ (names : ℕ → ℕ) (name : ℕ). leading names name r) states (stated_old room) ∙ sym leads.before)
        (ap₂ (λ (names : ℕ → ℕ) (name : ℕ). leading names name r) states (look_states T r) ∙ sym leads.after) ∙
        ap (follows was is) (look_states T x))

-- ---- the loop

-- the first x rows are marked as they are touched, and no row from x on
pub record MarkedSoFar (T old : List ℕ) (r n was is x : ℕ) (marks : List ℕ) : Type 0 where
  pub leads : Leads T old r was is
  pub some : x ≤ n
  pub marks_are : (y : ℕ) → y < x → marked marks y ≡ touched_with T old r y
  pub none : (y : ℕ) → x ≤ y → y < 1024 → marked marks y ≡ false

module _ (T old : List ℕ) (n r : ℕ) (marks₀ : List ℕ) (can : CanMark T old n r marks₀) where
  few : n ≤ 1024
  few = let h : rows T ≤ MOST = can.ok.head.few in omega (arith, can.few)

  below : NamesBelow (look T)
  below = formed_below _ (look T) (accepted_formed T can.ok)

  pub old_there : 0 + LENGTH ≤ length old
  old_there = omega (arith, can.long)

  pub row_there : {x : ℕ} → x < n → place x + LENGTH ≤ length T
  row_there l = room_in T (rw can.few at l) can.ok.head.size

  pub r_there : place r + LENGTH ≤ length T
  r_there = row_there can.row

  pub before_r_there : place r ≤ length T
  before_r_there = omega (arith, r_there)

  pub marks_begun : {name name' was is : ℕ} → Read (name_from old 0) 65536 name → was ≡ leading (name_at T) name r →
      Read (name_at T r) 65536 name' → is ≡ leading (name_at T) name' r → MarkedSoFar T old r n was is 0 marks₀
  marks_begun stated e stated' e' =
      record {
        leads = record {
          before = e ∙ ap (λ (name : ℕ). leading (name_at T) name r) stated.is;
          after = e' ∙ ap (λ (name : ℕ). leading (name_at T) name r) stated'.is;
        };
        some = omega arith;
        marks_are = λ y h. absurd (omega arith);
        none = λ y h l. can.none y l;
      }

  pub mark_reached : {x : ℕ} → x < n → Reached T x
  unfolding look
  mark_reached {x} l =
      let l' : x < rows T = rw can.few at l in
      record {
        room = row_there l;
        named = record {
          kind_low = (can.ok.row x l').kind_low;
          kind_high = (can.ok.row x l').kind_high;
          names = names_widen {W = λ array y. y < MOST} (term_of (row_at T x)) (λ s y (h : y < x). omega (arith, few)) (below x);
        };
      }

  module _ {was is x : ℕ} {marks : List ℕ} (so : MarkedSoFar T old r n was is x marks) where
    pub mark_room : x < n → x < MOST
    mark_room l = omega (arith, few)

    module _ (l : x < n) {b : Bool} (tested : b ≡ test T marks r was is x) {marks' : List ℕ} (set_is : Remarked marks x b marks') where
      told : b ≡ touched_with T old r x
      told =
          tested ∙
          ap (λ (c : Bool). eqb x r || follows was is (name_at T x) || c)
          (any_named_local (marked marks) (touched_with T old r) (look T x) (names_widen (look T x) (λ s y (h : y < x). so.marks_are y h) (below x))) ∙
          sym (touched_told_by T old r can.long r_there below so.leads x)

      set_here : marked marks' x ≡ b
      set_here =
          set_is.here ∙
          ap (λ (c : Bool). c || b) (so.none x (le_refl x) (omega (arith, few)))

      pub marks_next : MarkedSoFar T old r n was is (x + 1) marks'
      marks_next =
          record {
            leads = so.leads;
            some = omega arith;
            marks_are = λ y h.
                dite (dec_lt y x)
                (λ (k : y < x). set_is.there y (λ e. omega arith) ∙ so.marks_are y k)
                (λ (k : y < x → ⊥). let same : y ≡ x = omega arith in rw same (set_here ∙ told));
            none = λ y h k. set_is.there y (λ e. omega arith) ∙ so.none y (omega arith) k;
          }

    -- the ones of the words are the touched rows
    pub marks_done : n ≤ x → {count : ℕ} → count ≡ ones_of marks 16 → count ≡ count_where (marked marks) MOST → Marked T old r n marks count
    marks_done h e rows =
        let same : x ≡ n = omega (arith, so.some) in
        let marks_are : (y : ℕ) → y < n → marked marks y ≡ touched_with T old r y = rw same at so.marks_are in
        let none_past : (y : ℕ) → n ≤ y → y < 1024 → marked marks y ≡ false = λ y k l. so.none y (omega arith) l in
        record {
          marks_are = marks_are;
          none_past = none_past;
          ones_are = e;
          counted = rows ∙ rows_below marks n few none_past ∙ count_same (marked marks) (touched_with T old r) n marks_are;
        }
