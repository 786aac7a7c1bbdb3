-- One turn of a run: the row that is settled, and what stands afterwards. Assumes nothing.
use Prim.Native.Nat.{ℕ, suc, ◌^◌, ◌≤◌, ◌<◌}
use native.Mathlib.Omega.{arith}
use native.Mathlib.Decide.{dec_lt}
use mathlib.Core.Path.{◌≡◌, sym, ap, ◌∙◌}
use mathlib.Core.Logic.{◌≢◌, dite}
use mathlib.Core.Bool.{Bool, true, false}
use mathlib.Core.List.{List}
use lib.Dec.{lit<}
use lib.ListN.{length}
use lib.Pow.{pow_pos, pow_mono}
use Rattle.range.specs.declared.Range.{Range}
use Rattle.range.specs.Range.{span, point, Proper}
use Rattle.range.specs.Store.{kept, keep}
use Rattle.range.proofs.Kept.{keep_length, keep_same, keep_other}
use Rattle.row.specs.declared.Row.{Row}
use Rattle.row.specs.Names.{SHIFT, place}
use Rattle.in_bytes.specs.Numbers.{Read}
use Rattle.row.specs.Bytes.{row, row_at, source_at, put_row, Small, Decoded}
use Rattle.row.proofs.Rows.{put_read_lem}
use Rattle.table.specs.Refusals.{MOST}
use Rattle.term.specs.Term.{Term, shift, fresh, write, term_of, row_of, is_array}
use Rattle.term.specs.WellFormed.{Fits}
use Rattle.term.specs.Bytes.{look, put_if}
use Rattle.term.specs.Seen.{is_later, seen}
use Rattle.term.specs.Rule.{rule}
use Rattle.term.specs.Result.{rule_at}
use Rattle.term.specs.Compared.{compared_by}
use Rattle.term.proofs.Rows.{term_row}
use Rattle.term.proofs.Names.{names_widen, names_both}
use Rattle.term.proofs.Inside.{rule_at_in}
use Rattle.term.proofs.WellFormed.{rule_at_stands}
use Rattle.term.proofs.Compared.{later_compared}
use Rattle.term.proofs.Seen.{seen_own, seen_small, is_later_lem, no_later, by_name_own, by_name_later}
use Rattle.term.proofs.Looked.{name_small, small_term}
use Rattle.term.proofs.Placed.{length_put_if, put_if_other}
use Rattle.walks.specs.Ready.{NamesBelow, SortsIn, Standing, Linked}
use Rattle.walks.proofs.Reach.{rows_closed, sorts_closed}
use Rattle.rules.specs.declared.Made.{Made}
use Rattle.rules.specs.Made.{made, Makes, MakesAt}
use Rattle.rules.specs.Ready.{Asked, Traced, Ranging}
use Rattle.rules.specs.Written.{entry, origin, CanWrite, settled, becomes, compared_in, Settled, Written}
use Rattle.rules.proofs.RowRanges.{WordsProper, words_proper, entry_proper, entry_store, entry_end}

-- ---- the row that is made

module _ (T : List ℕ) (r : ℕ) (x : Row) where
  pub decoded_term : Decoded T r x → term_of x ≡ look T r
  unfolding look
  decoded_term d = ap term_of d.is

-- of a touched row
module _ (T R : List ℕ) (S : List Range) (w limit r first : ℕ) (given : CanWrite T R S w r first true) where
  abbrev row_made : Term
  row_made = rule_at (2 ^ w) limit (look T) (look R) (kept S) r

  abbrev read_row : Term
  read_row = seen (look T) r

  read_fits : Fits (2 ^ w) read_row
  unfolding origin
  read_fits = given.fits

  read_names : NamesBelow r read_row
  unfolding origin
  read_names = given.names

  read_sorts : SortsIn R read_row
  unfolding origin
  read_sorts = given.sorts

  made_fits : Fits (2 ^ w) row_made
  made_fits = (rule_at_stands (2 ^ w) (pow_pos w) limit (look T) (look R) (kept S) r read_fits).0

  made_names : NamesBelow r row_made
  made_names = rule_at_in (λ array y. y < r) (look R) (rows_closed R r given.rows) (2 ^ w) limit (kept S) (look T) r read_names

  made_sorts : SortsIn R row_made
  made_sorts =
      names_widen row_made (λ (s : Bool) (y : ℕ) (h : (y < r) × (is_array (look R y) ≡ s)). h.1)
      (rule_at_in (λ array y. (y < r) × (is_array (look R y) ≡ array)) (look R) (sorts_closed R r given.rows given.sorted) (2 ^ w) limit (kept S) (look T) r
      (names_both (λ array y. y < r) (λ array y. is_array (look R y) ≡ array) read_row read_names read_sorts))

  -- it fits its fields
  made_small : Small (row_of row_made)
  made_small =
      small_term (2 ^ w) r (pow_mono given.width) (omega (arith, given.rows.few)) row_made made_fits
      (rw (rule_at_stands (2 ^ w) (pow_pos w) limit (look T) (look R) (kept S) r read_fits).2 (seen_small (look T) 65536 (lit< tt) (name_small T) r)) made_names

  -- a later VAR of a name
  pub made_later : first < r → {x : Row} {y : Made} → x ≡ row SHIFT first 0 0 0 0 → y ≡ made x 0 → MakesAt (2 ^ w) limit (look T) (look R) (kept S) r y
  unfolding rule_at row_of
  made_later l e made_is =
      let later : is_later (look T) r ≡ true = is_later_lem (look T) r (rw given.first_is at l) in
      rw made_is
      (record {
        row = e ∙ ap (λ (y : ℕ). row_of (shift y 0)) given.first_is ∙ ap row_of (sym (by_name_later (look T) r later _));
        compared = later_compared limit (look R) (kept S) (look T) r later;
      })

  -- every other row, as it is decoded
  module _ (own : r ≤ first) (y : Row) (row : Decoded T r y) where
    not_later : is_later (look T) r ≡ false
    not_later = no_later (look T) r (rw given.first_is at own)

    read_is : read_row ≡ term_of y
    read_is = seen_own (look T) r not_later ∙ sym (decoded_term T r y row)

    pub made_asks : Asked R r (term_of y)
    made_asks = record { rows = given.rows; names = rw read_is at read_names }

    pub made_traced : Traced R S r (term_of y)
    made_traced = record { links = given.links; sorted = given.sorted; sorts = rw read_is at read_sorts }

    pub made_own : {x : Made} → Makes (2 ^ w) limit (look R) (kept S) (term_of y) x → MakesAt (2 ^ w) limit (look T) (look R) (kept S) r x
    unfolding rule_at
    made_own makes =
        let own : term_of y ≡ look T r = decoded_term T r y row in
        record {
          row = makes.row ∙ ap (λ (u : Term). row_of (rule (2 ^ w) limit (look R) (kept S) u)) own ∙ ap row_of (sym (by_name_own (look T) r not_later _));
          compared = makes.compared ∙ ap (compared_by limit (look R) (kept S)) own;
        }

-- ---- settling a row

module _ (T R : List ℕ) (S : List Range) (w limit r first : ℕ) (touched : Bool) (given : CanWrite T R S w r first touched) where
  origin_kept : touched ≡ false → origin T R r touched ≡ look R r
  unfolding origin
  origin_kept e = rw e

  pub settle_kept : (x : Row) (y : Made) → touched ≡ false → Decoded R r x → y ≡ made x 0 → Settled T R R S w limit r touched y
  unfolding settled becomes compared_in put_if
  settle_kept x y e d made_is =
      let same : origin T R r touched ≡ term_of x = origin_kept e ∙ sym (decoded_term R r x d) in
      rw made_is
      (record {
        result = rw e;
        row = decoded_term R r x d;
        becomes = rw e (decoded_term R r x d);
        fits = rw same at given.fits;
        names = rw same at given.names;
        sorts = rw same at given.sorts;
        compared = rw e;
      })

  pub settle_makes : touched ≡ true → CanWrite T R S w r first true
  settle_makes e = rw e at given

  module _ (test : touched ≡ true) (x : Made) (makes : MakesAt (2 ^ w) limit (look T) (look R) (kept S) r x) where
    is : x.row ≡ row_of (rule_at (2 ^ w) limit (look T) (look R) (kept S) r)
    is = makes.row

    term_made : term_of x.row ≡ rule_at (2 ^ w) limit (look T) (look R) (kept S) r
    term_made = ap term_of is ∙ term_row (rule_at (2 ^ w) limit (look T) (look R) (kept S) r)

    pub settle_made : (R' : List ℕ) (source : ℕ) → Read (source_at T r) (2 ^ 32) source → R' ≡ put_row R r x.row source → Settled T R R' S w limit r touched x
    unfolding settled becomes compared_in put_if look
    settle_made R' source carried e =
        let given' : CanWrite T R S w r first true = settle_makes test in
        record {
          result = e ∙ rw (test, is, carried.is);
          row = ap term_of (sym (put_read_lem R r x.row source given.room (rw is (made_small T R S w limit r first given')))) ∙ rw e;
          becomes = rw test term_made;
          fits = rw term_made (made_fits T R S w limit r first given');
          names = rw term_made (made_names T R S w limit r first given');
          sorts = rw term_made (made_sorts T R S w limit r first given');
          compared = makes.compared ∙ sym (rw test);
        }

-- ---- what stands after the turn

module _ (T R R' : List ℕ) (S : List Range) (w limit r first : ℕ) (touched : Bool) (made_row : Made)
    (given : CanWrite T R S w r first touched) (done : Settled T R R' S w limit r touched made_row) where
  abbrev x : Row
  x = made_row.row

  settled_length : length R' ≡ length R
  unfolding settled
  settled_length =
      ap length done.result ∙ length_put_if R r (row_of (rule_at (2 ^ w) limit (look T) (look R) (kept S) r)) (source_at T r) touched

  settled_other : (y : ℕ) → y ≢ r → look R' y ≡ look R y
  unfolding settled look
  settled_other y h =
      ap (λ (l : List ℕ). term_of (row_at l y)) done.result
      ∙ ap term_of (put_if_other R r (row_of (rule_at (2 ^ w) limit (look T) (look R) (kept S) r)) (source_at T r) touched y h)

  settled_names : (y : ℕ) → y < suc r → NamesBelow y (look R' y)
  settled_names y l =
      dite (dec_lt y r)
      (λ (h : y < r). rw (settled_other y (λ e. omega arith)) (given.rows.names y h))
      (λ (h : y < r → ⊥).
      let e : y ≡ r = omega arith in
      rw (e, ← done.row) done.names)

  -- the rows below r keep their sorts
  sorts_stay : (t : Term) → NamesBelow r t → SortsIn R t → SortsIn R' t
  sorts_stay t n m =
      names_widen t
      (λ (s : Bool) (y : ℕ) (h : (y < r) × (is_array (look R y) ≡ s)). ap is_array (settled_other y (λ e. omega (arith, h.0))) ∙ h.1)
      (names_both (λ array y. y < r) (λ array y. is_array (look R y) ≡ array) t n m)

  settled_sorts : (y : ℕ) → y < suc r → SortsIn R' (look R' y)
  settled_sorts y l =
      dite (dec_lt y r)
      (λ (h : y < r).
      rw (settled_other y (λ e. omega arith)) (sorts_stay (look R y) (rows_closed R r given.rows true y h) (given.sorted.sorts y h)))
      (λ (h : y < r → ⊥).
      let e : y ≡ r = omega arith in
      rw (e, ← done.row) (sorts_stay (term_of x) done.names done.sorts))

  settled_standing : Standing R' (suc r)
  unfolding place
  settled_standing =
      record { few = given.few; room = omega (arith, settled_length, given.room); names = settled_names }

  settled_words : WordsProper (2 ^ w) (kept S) (term_of x)
  settled_words = words_proper (2 ^ w) R S r given.ranges (term_of x) done.names done.sorts

  pub turn_asks : Ranging S w r (term_of x)
  turn_asks =
      record { few = given.rows.few; fits = done.fits; names = done.names; words = settled_words }

  module _ (S' : List Range) (a : Range) (is : a ≡ entry (2 ^ w) (kept S) (term_of x)) (saved : S' ≡ keep S r a) (long : length S ≡ MOST) where
    saved_other : (y : ℕ) → y < r → kept S' y ≡ kept S y
    saved_other y h = rw saved (keep_other S r a y (λ e. omega arith))

    saved_here : kept S' r ≡ entry (2 ^ w) (kept S) (look R' r)
    saved_here = rw saved (keep_same S r a (omega (arith, given.few, long)) ∙ is ∙ ap (entry (2 ^ w) (kept S)) done.row)

    settled_proper : (y : ℕ) → y < suc r → is_array (look R' y) ≡ false → Proper (2 ^ w) (kept S' y)
    settled_proper y l word =
        dite (dec_lt y r)
        (λ (h : y < r).
        rw (saved_other y h) (given.ranges.proper y h (ap is_array (sym (settled_other y (λ e. omega arith))) ∙ word)))
        (λ (h : y < r → ⊥).
        let e : y ≡ r = omega arith in
        rw (e, saved_here, ← done.row)
        (entry_proper (2 ^ w) (kept S) (pow_pos w) (term_of x) (ap is_array done.row ∙ rw e at word) done.fits settled_words))

    -- an array row t has in the store what is kept for it
    settled_entry : (t : Term) (e : Range) → entry (2 ^ w) (kept S) t ≡ e
        → ((y : ℕ) → y < r → look R y ≡ t → kept S y ≡ e) → (y : ℕ) → y < suc r → look R' y ≡ t → kept S' y ≡ e
    settled_entry t e here below y l row =
        dite (dec_lt y r)
        (λ (h : y < r). saved_other y h ∙ below y h (sym (settled_other y (λ z. omega arith)) ∙ row))
        (λ (h : y < r → ⊥).
        let same : y ≡ r = omega arith in
        rw same (saved_here ∙ ap (entry (2 ^ w) (kept S)) (rw same at row) ∙ here))

    settled_links : Linked R' S' (suc r)
    settled_links =
        record {
          stores = λ y a b c l e.
              settled_entry (write a b c) (span a b) (entry_store (2 ^ w) (kept S) a b c) (λ z h. given.links.stores z a b c h) y l e;
          ends = λ y l e. settled_entry fresh (point MOST) (entry_end (2 ^ w) (kept S)) given.links.ends y l e;
        }

    pub turn_written : {compared : ℕ} → compared ≡ made_row.compared → Written T R R' S S' w limit r touched compared
    turn_written counted =
        record {
          result = done.result;
          row = sym done.row ∙ done.becomes;
          store = saved ∙ rw (is, done.row);
          long = ap length saved ∙ keep_length S r a ∙ long;
          rows = settled_standing;
          sorted = record { sorts = settled_sorts };
          ranges = record { proper = settled_proper };
          links = settled_links;
          counted = counted ∙ done.compared;
        }
