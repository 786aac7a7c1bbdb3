-- Marking the rows that ranges are made from.
use Prim.Native.Nat.{ℕ, ◌+◌, ◌-◌, ◌*◌, ◌≤◌, ◌<◌}
use native.Mathlib.Omega.{arith}
use native.Mathlib.Decide.{ℕ_discrete, dec_lt}
use mathlib.Core.Path.{◌≡◌, refl, sym, ◌∙◌}
use mathlib.Core.Bool.{Bool, true, false, true≢false}
use mathlib.Core.Logic.{dite, ◌⊎◌, ⊎_elim, inl, inr}
use mathlib.Core.List.{List}
use Rattle.basis.proofs.Pick.{or_true_right}
use Rattle.row.specs.declared.Row.{Row}
use Rattle.row.specs.declared.kind.Kind.{Kind}
use Rattle.row.specs.declared.kind.Kind.TheVariants.{Const, Var, Shift, Sum, Diff, Neg, Read, Fresh, Write}
use Rattle.row.specs.Kinds.{byte_of, StatesNone}
use Rattle.row.specs.Names.{SHIFT, SUM, DIFF, NEG, WRITE, place}
use Rattle.row.specs.Bytes.{Decoded, row}
use Rattle.row.proofs.States.{states_shift, states_sum, states_diff, states_neg}
use Rattle.table.specs.Refusals.{MOST}
use Rattle.term.specs.Term.{term_of}
use Rattle.term.specs.Relation.{Rests}
use Rattle.term.specs.WellFormed.{Names, Below}
use Rattle.term.specs.Bytes.{look}
use Rattle.term.proofs.Rows.{number_case}
use Rattle.term.proofs.Names.{rests_widen}
use Rattle.rules.proofs.Turns.{decoded_term}
use Rattle.marks.specs.Marks.{marked, none_beside, Remarked}
use Rattle.marks.proofs.Marking.{none_beside_lem}
use Rattle.needed.specs.Needed.{Word, TwoWords, Needing, Needed}

-- ---- the rows that the range of a row is made from, by its kind

-- SUM and DIFF have two
abbrev HasTwo : ℕ → Type 0
HasTwo kind = (kind ≡ SUM) ⊎ (kind ≡ DIFF)

-- they stand between SHIFT and NEG, which have one
two_low : (kind : ℕ) → HasTwo kind → SHIFT < kind
two_low kind two = ⊎_elim (λ (e : kind ≡ SUM). omega arith) (λ (e : kind ≡ DIFF). omega arith) two

two_high : (kind : ℕ) → HasTwo kind → kind < NEG
two_high kind two = ⊎_elim (λ (e : kind ≡ SUM). omega arith) (λ (e : kind ≡ DIFF). omega arith) two

-- and no other kind is among them
none_between : (kind : Kind) → (kind ≡ Shift → ⊥) → (kind ≡ Neg → ⊥) → (kind ≡ Sum → ⊥) → (kind ≡ Diff → ⊥) → SHIFT ≤ byte_of kind → byte_of kind ≤ NEG → ⊥
none_between Const s n p d low high = absurd (omega arith)
none_between Var s n p d low high = absurd (omega arith)
none_between Shift s n p d low high = s refl
none_between Sum s n p d low high = p refl
none_between Diff s n p d low high = d refl
none_between Neg s n p d low high = n refl
none_between Read s n p d low high = absurd (omega arith)
none_between Fresh s n p d low high = absurd (omega arith)
none_between Write s n p d low high = absurd (omega arith)

rests_kind : (U : ℕ → Type 0) (x : Row) → (SHIFT ≤ x.kind → x.kind ≤ NEG → U x.a) → (HasTwo x.kind → U x.b) → Rests U (term_of x)
unfolding term_of
rests_kind U x =
    number_case (λ kind. (a b c k h : ℕ) → (SHIFT ≤ kind → kind ≤ NEG → U a) → (HasTwo kind → U b) → Rests U (term_of (row kind a b c k h)))
    (λ a b c k h p q. tt)
    (λ a b c k h p q. tt)
    (λ a b c k h p q. tt)
    (λ a b c k h p q. p (omega arith) (omega arith))
    (λ a b c k h p q. (p (omega arith) (omega arith), q (inl refl)))
    (λ a b c k h p q. (p (omega arith) (omega arith), q (inr refl)))
    (λ a b c k h p q. p (omega arith) (omega arith))
    (λ a b c k h p q. tt)
    (λ a b c k h p q. tt)
    (λ a b c k h p q. tt)
    (λ more a b c k h p q. tt)
    x.kind x.a x.b x.c x.k x.h

-- they are words that it names
module _ (W : Bool → ℕ → Type 0) (x : Row) where
  first_named_lem : Names W (term_of x) → SHIFT ≤ x.kind → x.kind ≤ NEG → W false x.a
  unfolding term_of
  first_named_lem =
      number_case (λ kind. (a b c k h : ℕ) → Names W (term_of (row kind a b c k h)) → SHIFT ≤ kind → kind ≤ NEG → W false a)
      (λ a b c k h n low high. absurd (omega arith))
      (λ a b c k h n low high. absurd (omega arith))
      (λ a b c k h n low high. absurd (omega arith))
      (λ a b c k h n low high. n)
      (λ a b c k h n low high. n.0)
      (λ a b c k h n low high. n.0)
      (λ a b c k h n low high. n)
      (λ a b c k h n low high. absurd (omega arith))
      (λ a b c k h n low high. absurd (omega arith))
      (λ a b c k h n low high. absurd (omega arith))
      (λ more a b c k h n low high. absurd (omega arith))
      x.kind x.a x.b x.c x.k x.h

  second-named : Names W (term_of x) → HasTwo x.kind → W false x.b
  unfolding term_of
  second-named n (inl e) = (rw e at n).1
  second-named n (inr e) = (rw e at n).1

-- ---- more marks

-- more words are marked, all of them below r
record Grown (R : List ℕ) (r : ℕ) (marks after : List ℕ) : Type 0 where
  rows : (x : ℕ) → x < MOST → marked after x ≡ true → Word R x
  stay : (x : ℕ) → marked marks x ≡ true → marked after x ≡ true
  above : (x : ℕ) → r ≤ x → marked after x ≡ marked marks x

grown_none : (R marks : List ℕ) (r : ℕ) → ((x : ℕ) → x < MOST → marked marks x ≡ true → Word R x) → Grown R r marks marks
grown_none R marks r rows = record { rows = rows; stay = λ x m. m; above = λ x l. refl }

module _ (R : List ℕ) (r : ℕ) (marks : List ℕ) {now after : List ℕ} {a : ℕ} (so : Grown R r marks now) (below : a < r) (word : Word R a)
    (set : Remarked now a true after) where
  here : marked after a ≡ true
  here = set.here ∙ or_true_right (marked now a) true refl

  there : (x : ℕ) → (x ≡ a → ⊥) → marked after x ≡ marked now x
  there x other = set.there x other

  stays : (x : ℕ) → marked now x ≡ true → marked after x ≡ true
  stays x m = dite (ℕ_discrete x a) (λ (e : x ≡ a). rw e here) (λ (n : x ≡ a → ⊥). there x n ∙ m)

  grown_mark : Grown R r marks after
  grown_mark =
      record {
        rows = λ x l m. dite (ℕ_discrete x a) (λ (e : x ≡ a). rw e word) (λ (n : x ≡ a → ⊥). so.rows x l (sym (there x n) ∙ m));
        stay = λ x m. stays x (so.stay x m);
        above = λ x l. there x (λ e. absurd (omega arith)) ∙ so.above x l;
      }

-- ---- one row

module _ (R marks : List ℕ) (r : ℕ) (needs : Needing R (r + 1) marks) (own : Word R r) where
  settled : {after : List ℕ} → Grown R r marks after → Rests (λ y. marked after y ≡ true) (look R r) → Needed R marks r after
  settled {after} grown rests =
      record {
        needs = record {
          names = needs.names;
          rows = grown.rows;
          closed = λ x l few m.
              dite (ℕ_discrete x r)
              (λ (e : x ≡ r). rw e rests)
              (λ (n : x ≡ r → ⊥).
              rests_widen (look R x) grown.stay (needs.closed x (omega arith) few (sym (grown.above x l) ∙ m)));
        };
        stay = grown.stay;
      }

  module _ {x : Row} (decoded : Decoded R r x) where
    names : Names (Below (look R) r) (term_of x)
    names = rw (decoded_term R r x decoded) (needs.names r)

    word : {y : ℕ} → Below (look R) r false y → Word R y
    unfolding place
    word {y} at =
        record {
          there = record { few = omega (arith, at.below, own.there.few); room = omega (arith, at.below, own.there.room) };
          sort = at.sort;
        }

    begun : Grown R r marks marks
    begun = grown_none R marks r needs.rows

    outside : (SHIFT ≤ x.kind → x.kind ≤ NEG → ⊥) → Needed R marks r marks
    outside none =
        settled begun
        (rw (← decoded_term R r x decoded) (rests_kind _ x (λ l h. absurd (none l h)) (λ two. absurd (none (omega (arith, two_low x.kind two)) (omega (arith, two_high x.kind two))))))

    pub below_no_kind : StatesNone x.kind → Needed R marks r marks
    below_no_kind none =
        outside (λ low high. ⊎_elim (λ (e : x.kind ≡ 0). absurd (omega (arith, e))) (λ (l : WRITE < x.kind). absurd (omega arith)) none)

    pub below_none : {kind : Kind} → x.kind ≡ byte_of kind → (kind ≡ Shift → ⊥) → (kind ≡ Neg → ⊥) → (kind ≡ Sum → ⊥) → (kind ≡ Diff → ⊥) → Needed R marks r marks
    below_none {kind} states no_shift no_neg no_sum no_diff =
        outside (λ low high. none_between kind no_shift no_neg no_sum no_diff (rw states at low) (rw states at high))

    module _ (low : SHIFT ≤ x.kind) (high : x.kind ≤ NEG) where
      left : Below (look R) r false x.a
      left = first_named_lem (Below (look R) r) x names low high

      asks_left : x.a < MOST
      asks_left = (word left).there.few

      module _ {now : List ℕ} (set : Remarked marks x.a true now) where
        first_marked : marked now x.a ≡ true
        first_marked = here R r marks begun left.below (word left) set

        grown : Grown R r marks now
        grown = grown_mark R r marks begun left.below (word left) set

        one : (HasTwo x.kind → ⊥) → Needed R marks r now
        one single = settled grown (rw (← decoded_term R r x decoded) (rests_kind _ x (λ l h. first_marked) (λ two. absurd (single two))))

        two_marked : (two : HasTwo x.kind) → {after : List ℕ} → Remarked now x.b true after → Needed R marks r after
        two_marked two {after} again =
            let right : Below (look R) r false x.b = second-named (Below (look R) r) x names two in
            let both : Grown R r marks after = grown_mark R r marks grown right.below (word right) again in
            settled both
            (rw (← decoded_term R r x decoded)
            (rests_kind _ x
            (λ l h. stays R r marks grown right.below (word right) again x.a first_marked)
            (λ t. here R r marks grown right.below (word right) again)))

    module _ {kind : Kind} (states : x.kind ≡ byte_of kind) where
      module _ (is : (kind ≡ Shift) ⊎ (kind ≡ Neg)) where
        ends : (x.kind ≡ SHIFT) ⊎ (x.kind ≡ NEG)
        ends = ⊎_elim (λ (e : kind ≡ Shift). inl (states_shift states e)) (λ (e : kind ≡ Neg). inr (states_neg states e)) is

        low : SHIFT ≤ x.kind
        low = ⊎_elim (λ (e : x.kind ≡ SHIFT). omega (arith, e)) (λ (e : x.kind ≡ NEG). omega (arith, e)) ends

        high : x.kind ≤ NEG
        high = ⊎_elim (λ (e : x.kind ≡ SHIFT). omega (arith, e)) (λ (e : x.kind ≡ NEG). omega (arith, e)) ends

        single : HasTwo x.kind → ⊥
        single two =
            ⊎_elim
            (λ (e : x.kind ≡ SHIFT). absurd (omega (arith, e, two_low x.kind two)))
            (λ (e : x.kind ≡ NEG). absurd (omega (arith, e, two_high x.kind two)))
            ends

        pub below_asks : x.a < MOST
        below_asks = asks_left low high

        pub below_one : {now : List ℕ} → Remarked marks x.a true now → Needed R marks r now
        below_one set = one low high set single

      module _ (is : (kind ≡ Sum) ⊎ (kind ≡ Diff)) where
        two : HasTwo x.kind
        two = ⊎_elim (λ (e : kind ≡ Sum). inl (states_sum states e)) (λ (e : kind ≡ Diff). inr (states_diff states e)) is

        from : SHIFT ≤ x.kind
        from = omega (arith, two_low x.kind two)

        to : x.kind ≤ NEG
        to = omega (arith, two_high x.kind two)

        pub below_asks_first : x.a < MOST
        below_asks_first = asks_left from to

        pub below_asks_second : x.b < MOST
        below_asks_second = (word (second-named (Below (look R) r) x names two)).there.few

        pub below_two : {now after : List ℕ} → Remarked marks x.a true now → Remarked now x.b true after → Needed R marks r after
        below_two set again = two_marked from to set two again

-- ---- all rows

-- down to row r
pub record Down (R marks : List ℕ) (r : ℕ) (now : List ℕ) : Type 0 where
  pub so : Needed R marks r now
  pub few : r ≤ MOST

-- down a word, where none of its rows is marked
pub down_word : {R marks now : List ℕ} (word : ℕ) → 0 < word → Down R marks (64 * word) now → none_beside now (64 * (word - 1)) ≡ true → Down R marks (64 * (word - 1)) now
down_word {R} {marks} {now} word some at none =
    record {
      so = record {
        needs = record {
          names = at.so.needs.names;
          rows = at.so.needs.rows;
          closed = λ x l few m.
              dite (dec_lt x (64 * word))
              (λ (h : x < 64 * word). absurd (true≢false (sym m ∙ none_beside_lem now (64 * (word - 1)) x none (omega arith))))
              (λ (h : x < 64 * word → ⊥). at.so.needs.closed x (omega arith) few m);
        };
        stay = at.so.stay;
      };
      few = omega (arith, at.few);
    }

-- ---- two rows

module _ (R : List ℕ) (w x y : ℕ) (two : TwoWords R w x y) {no : List ℕ} (none_marked : (z : ℕ) → z < MOST → marked no z ≡ false) where
  none_yet : Grown R MOST no no
  none_yet = grown_none R no MOST (λ z l m. absurd (true≢false (sym m ∙ none_marked z l)))

  module _ {one : List ℕ} (set : Remarked no x true one) where
    first_grown : Grown R MOST no one
    first_grown = grown_mark R MOST no none_yet two.first_row.there.few two.first_row set

    module _ {both : List ℕ} (again : Remarked one y true both) where
      pub two_needs : Needing R MOST both
      two_needs =
          let grown : Grown R MOST no both =
          grown_mark R MOST no first_grown two.second_row.there.few two.second_row again in
          record {
            names = two.formed.names;
            rows = grown.rows;
            closed = λ z l few m. absurd (omega arith);
          }

      pub second_there : marked both y ≡ true
      second_there = here R MOST no first_grown two.second_row.there.few two.second_row again

      pub first_there : marked both x ≡ true
      first_there =
          stays R MOST no first_grown two.second_row.there.few two.second_row again x
          (here R MOST no none_yet two.first_row.there.few two.first_row set)
