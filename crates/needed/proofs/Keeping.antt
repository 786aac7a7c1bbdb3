-- Keeping the ranges of marked rows: with each the rows that it is made from are marked, and stand below it.
use Prim.Native.Nat.{ℕ, ◌+◌, ◌*◌, ◌^◌, ◌≤◌, ◌<◌}
use native.Mathlib.Omega.{arith}
use native.Mathlib.Decide.{ℕ_discrete, dec_lt}
use lib.Pow.{pow_pos}
use mathlib.Core.Path.{◌≡◌, ap, sym, ◌∙◌}
use mathlib.Core.Bool.{Bool, true, false, true≢false}
use mathlib.Core.Logic.{dite}
use mathlib.Core.List.{List}
use lib.ListN.{length}
use Rattle.range.specs.declared.Range.{Range}
use Rattle.range.specs.Range.{Proper}
use Rattle.range.specs.Store.{kept, keep}
use Rattle.range.proofs.Kept.{keep_same, keep_other}
use Rattle.row.specs.declared.Row.{Row}
use Rattle.row.specs.Names.{LENGTH, place}
use Rattle.row.specs.Bytes.{Decoded}
use Rattle.table.specs.Refusals.{MOST}
use Rattle.term.specs.Term.{term_of}
use Rattle.term.specs.Relation.{Rests, range_of}
use Rattle.term.specs.WellFormed.{Below}
use Rattle.term.specs.Bytes.{look}
use Rattle.term.proofs.Names.{names_widen, names_rest, rests_widen, rests_both}
use Rattle.term.proofs.Local.{range_by_rests}
use Rattle.term.proofs.Ranges.{range_eq}
use Rattle.term.proofs.WellFormed.{formed_below}
use Rattle.rules.specs.Ready.{Ranging}
use Rattle.rules.specs.Written.{entry}
use Rattle.rules.proofs.RowRanges.{WordsProper, entry_range, entry_proper}
use Rattle.rules.proofs.Turns.{decoded_term}
use Rattle.marks.specs.Marks.{marked, none_beside, Remarked}
use Rattle.marks.proofs.Marking.{none_beside_lem}
use Rattle.needed.specs.Needed.{Word, TwoWords, Needed, Blank, Keeping, TwoKept}
use Rattle.needed.proofs.Marking.{first_there, second_there}

-- ---- one row

module _ (R marks : List ℕ) (S : List Range) (w r : ℕ) (keeping : Keeping R marks w r S) where
  -- up to row s, where no row from r on below s is marked
  passed : (s : ℕ) → r ≤ s → ((x : ℕ) → r ≤ x → x < s → marked marks x ≡ false) → Keeping R marks w s S
  passed s up none =
      record {
        formed = keeping.formed;
        needs = keeping.needs;
        store = keeping.store;
        ranges = λ x l few m.
            dite (dec_lt x r)
            (λ (h : x < r). keeping.ranges x h few m)
            (λ (h : x < r → ⊥). absurd (true≢false (sym m ∙ none x (omega arith) l)));
      }

  module _ (row_few : r < MOST) (here : marked marks r ≡ true) where
    own : Word R r
    own = keeping.needs.rows r row_few here

    pub keep_decodes : place r + LENGTH ≤ length R
    keep_decodes = own.there.room

    module _ {x : Row} (decoded : Decoded R r x) where
      is : term_of x ≡ look R r
      is = decoded_term R r x decoded

      -- all that the store has are ranges of words
      words : WordsProper (2 ^ w) (kept S) (look R r)
      words = names_widen {W = λ s y. s ≡ false → Proper (2 ^ w) (kept S y)} (look R r) (λ (s : Bool) (y : ℕ) (at : Below (look R) r s y) (word : s ≡ false). keeping.store.proper y) (keeping.formed.names r)

      pub keep_asks : Ranging S w r (term_of x)
      keep_asks =
          rw is
          (record {
            few = omega (arith, row_few);
            fits = keeping.formed.fits r;
            names = names_widen (look R r) (λ (s : Bool) (y : ℕ) (at : Below (look R) r s y). at.below) (keeping.formed.names r);
            words = words;
          })

      module _ {a : Range} {S' : List Range} (made : a ≡ entry (2 ^ w) (kept S) (term_of x)) (saved : S' ≡ keep S r a) (long : length S ≡ 1024) where
        entered : a ≡ entry (2 ^ w) (kept S) (look R r)
        entered = made ∙ ap (entry (2 ^ w) (kept S)) is

        now_kept : kept S' r ≡ a
        now_kept = ap (λ (s : List Range). kept s r) saved ∙ keep_same S r a (omega (arith, long, row_few))

        others : (y : ℕ) → (y ≡ r → ⊥) → kept S' y ≡ kept S y
        others y other = ap (λ (s : List Range). kept s y) saved ∙ keep_other S r a y other

        -- the rows that the range is made from stand below, and the store has their ranges
        rests : Rests (λ y. kept S y ≡ range_of (2 ^ w) (look R) y) (look R r)
        rests =
            rests_widen (look R r)
            (λ (y : ℕ) (m : (y < r) × (marked marks y ≡ true)). keeping.ranges y m.0 (omega (arith, m.0, row_few)) m.1)
            (rests_both (λ y. y < r) (λ y. marked marks y ≡ true) (look R r)
            (names_rest (λ y. y < r) (look R r)
            (names_widen {W = λ s y. s ≡ false → y < r} (look R r) (λ (s : Bool) (y : ℕ) (at : Below (look R) r s y) (word : s ≡ false). at.below) (keeping.formed.names r)))
            (keeping.needs.closed r (omega arith) row_few here))

        range_is : a ≡ range_of (2 ^ w) (look R) r
        range_is =
            entered ∙ entry_range (2 ^ w) (kept S) (look R r) own.sort ∙
            range_by_rests (2 ^ w) (kept S) (range_of (2 ^ w) (look R)) (look R r) rests ∙
            sym (range_eq (2 ^ w) (look R) (formed_below (2 ^ w) (look R) keeping.formed) r)

        proper : Proper (2 ^ w) a
        proper = rw entered (entry_proper (2 ^ w) (kept S) (pow_pos w) (look R r) own.sort (keeping.formed.fits r) words)

        pub keep_saved : Keeping R marks w (r + 1) S'
        keep_saved =
            record {
              formed = keeping.formed;
              needs = keeping.needs;
              store = record {
                proper = λ y.
                    dite (ℕ_discrete y r)
                    (λ (s : y ≡ r). rw (s, now_kept) proper)
                    (λ (n : y ≡ r → ⊥). rw (others y n) (keeping.store.proper y));
              };
              ranges = λ y l few m.
                  dite (ℕ_discrete y r)
                  (λ (s : y ≡ r). rw (s, now_kept) range_is)
                  (λ (n : y ≡ r → ⊥). others y n ∙ keeping.ranges y (omega arith) few m);
            }

-- ---- all rows

module _ {R marks : List ℕ} {S : List Range} {w : ℕ} where
  pub up_word : (word : ℕ) → Keeping R marks w (64 * word) S → none_beside marks (64 * word) ≡ true → Keeping R marks w (64 * (word + 1)) S
  up_word word at none =
      passed R marks S w (64 * word) at _ (omega arith) (λ x l h. none_beside_lem marks (64 * word) x none (omega arith))

  pub up_bit : (word bit : ℕ) → Keeping R marks w (64 * word + bit) S → marked marks (64 * word + bit) ≡ false → Keeping R marks w (64 * word + (bit + 1)) S
  up_bit word bit at none =
      passed R marks S w (64 * word + bit) at _ (omega arith) (λ x l h. let same : x ≡ 64 * word + bit = omega arith in rw same none)

  pub up_saved : (word bit : ℕ) → Keeping R marks w (64 * word + bit + 1) S → Keeping R marks w (64 * word + (bit + 1)) S
  up_saved word bit at = let same : 64 * word + bit + 1 ≡ 64 * word + (bit + 1) = omega arith in rw same at at

-- ---- two rows

module _ (R : List ℕ) (w x y : ℕ) (S : List Range) (two : TwoWords R w x y) (store : Blank w S)
    {no one both : List ℕ} (none_marked : (z : ℕ) → z < MOST → marked no z ≡ false) (set : Remarked no x true one) (again : Remarked one y true both) {marks : List ℕ} (needed : Needed R both 0 marks) where
  pub two_keeps : Keeping R marks w 0 S
  two_keeps =
      record {
        formed = two.formed;
        needs = needed.needs;
        store = store;
        ranges = λ z l few m. absurd (omega arith);
      }

  pub two_kept : {S' : List Range} → Keeping R marks w MOST S' → TwoKept R w x y S'
  two_kept done =
      let x_few : x < MOST = two.first_row.there.few in
      let y_few : y < MOST = two.second_row.there.few in
      record {
        first_range = done.ranges x x_few x_few (needed.stay x (first_there R w x y two none_marked set again));
        second_range = done.ranges y y_few y_few (needed.stay y (second_there R w x y two none_marked set again));
      }
