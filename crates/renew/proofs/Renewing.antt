-- The loop over rows: after r rounds the first r rows are the outcome's, and so are the ranges of the words among them.
use Prim.Native.Nat.{ℕ, suc, ◌+◌, ◌^◌, ◌≤◌, ◌<◌}
use native.Mathlib.Nat.{le_refl, lt_trans, lt-suc_self}
use native.Mathlib.Numerals.{add-one}
use native.Mathlib.Omega.{arith}
use native.Mathlib.Decide.{dec_lt}
use mathlib.Core.Path.{◌≡◌, refl, ap, ap₂, sym, subst, ◌∙◌}
use mathlib.Core.Bool.{Bool, true, false, cond, not, ◌&&◌}
use mathlib.Core.Logic.{dite}
use mathlib.Core.List.{List}
use lib.ListN.{length}
use lib.Dec.{ltb}
use lib.Pow.{pow_pos}
use borrow.Author.Tests.{lt-ltb, ltb-true}
use Rattle.basis.specs.Count.{count_where, total}
use Rattle.basis.proofs.Pick.{pick_case, test_case, pick_alike}
use Rattle.basis.proofs.Counts.{count_next, total_next}
use Rattle.range.specs.declared.Range.{Range}
use Rattle.range.specs.Store.{kept}
use Rattle.range.proofs.Kept.{keep_length, keep_same, keep_other}
use Rattle.row.specs.Names.{LENGTH, place}
use Rattle.row.specs.Bytes.{source_at, put_row}
use Rattle.row.proofs.Places.{room_below, place_grows}
use Rattle.table.specs.Refusals.{MOST}
use Rattle.term.specs.Term.{Term, is_read, is_array, term_of, row_of}
use Rattle.term.specs.Relation.{range_of}
use Rattle.names.specs.First.{name_at, first_of}
use Rattle.term.specs.Seen.{seen}
use Rattle.term.specs.Result.{rule_at, simplified, removed_rows}
use Rattle.term.specs.Compared.{compared_by, compared_rows}
use Rattle.term.specs.WellFormed.{Fits, Names, Below, WellFormed}
use Rattle.term.specs.Bytes.{look, put_if, put_rows}
use Rattle.term.proofs.Names.{NamesBelow, names_widen, names_both}
use Rattle.term.proofs.Seen.{seen_below, seen_sort, seen_formed}
use Rattle.term.proofs.Local.{rule_at_local, range_by_local, compared_local}
use Rattle.term.proofs.Ranges.{range_eq}
use Rattle.term.proofs.WellFormed.{formed_below, simplified_stands}
use Rattle.term.proofs.Looked.{first_row_is}
use Rattle.term.proofs.Renewed.{KeptBelow, renewed_eq, renewed_below}
use Rattle.term.proofs.Placed.{length_put_rows, put_if_other, put_rows_above, put_rows_next}
use Rattle.walks.specs.Ready.{SortsIn, Standing, Sorted, Linked}
use Rattle.walks.proofs.Reach.{sorts_closed}
use Rattle.rules.specs.Ready.{Ranged}
use Rattle.rules.specs.Written.{entry, origin, settled, becomes, compared_in, CanWrite, Written}
use Rattle.rules.proofs.RowRanges.{entry_range}
use Rattle.marks.specs.Marks.{marked}
use Rattle.renew.specs.Renew.{standing, outcome, CanRenew, Renewed}

-- R and S are the result and the store after r rounds, which began with R₀
pub record Renewing (T R₀ marks : List ℕ) (w limit n r : ℕ) (R : List ℕ) (S : List Range) (removed compared : ℕ) : Type 0 where
  pub some : r ≤ n
  pub result : R ≡ put_rows (marked marks) (outcome T R₀ (marked marks) w limit n) (source_at T) r R₀
  pub rows : (x : ℕ) → x < r → look R x ≡ outcome T R₀ (marked marks) w limit n x
  pub ranges : (x : ℕ) → x < r → is_array (look T x) ≡ false → kept S x ≡ range_of (2 ^ w) (outcome T R₀ (marked marks) w limit n) x
  pub stand : Standing R r
  pub sorted : Sorted R r
  pub ranged : Ranged (2 ^ w) R S r
  pub links : Linked R S r
  pub counted : removed ≡ removed_rows (look T) (outcome T R₀ (marked marks) w limit n) r
  pub summed : compared ≡ compared_rows (2 ^ w) limit (marked marks) (look T) (outcome T R₀ (marked marks) w limit n) r

-- rows above those put are looked up as they were
pub look_above : (touched : ℕ → Bool) (f : ℕ → Term) (source : ℕ → ℕ) (n : ℕ) (buffer : List ℕ) (x : ℕ) → n ≤ x → look (put_rows touched f source n buffer) x ≡ look buffer x
unfolding look
look_above touched f source n buffer x h = ap term_of (put_rows_above touched f source n buffer x h)

module _ (T R₀ : List ℕ) (S₀ : List Range) (marks : List ℕ) (w limit n : ℕ) (can : CanRenew T R₀ S₀ marks w limit n) where
  pub table_below : NamesBelow (look T)
  table_below = formed_below (2 ^ w) (look T) can.formed

  -- the table as it is read
  read_formed : WellFormed (2 ^ w) (seen (look T))
  read_formed = seen_formed (look T) (2 ^ w) (pow_pos w) can.formed

  kept_below : KeptBelow (marked marks) (standing R₀ n)
  unfolding standing
  kept_below x e =
      pick_case (Names (λ s y. y < x)) (ltb x n) (λ (l : ltb x n ≡ true). can.kept_names x (ltb-true x n l) e) (λ (l : ltb x n ≡ false). tt)

  abbrev out : ℕ → Term
  out = outcome T R₀ (marked marks) w limit n

  pub out_below : NamesBelow out
  unfolding outcome
  out_below = renewed_below (2 ^ w) limit (marked marks) (look T) (standing R₀ n) table_below kept_below

  pub out_eq : (x : ℕ) → out x ≡ cond (marked marks x) (simplified (2 ^ w) limit (look T) out x) (standing R₀ n x)
  unfolding outcome
  out_eq = renewed_eq (2 ^ w) limit (marked marks) (look T) (standing R₀ n) table_below kept_below

  -- an unmarked row is the one that stood there
  out_kept : (x : ℕ) → x < n → marked marks x ≡ false → out x ≡ look R₀ x
  unfolding standing
  out_kept x l e = out_eq x ∙ rw (e, lt-ltb x n l)

  out_made : (x : ℕ) → marked marks x ≡ true → out x ≡ simplified (2 ^ w) limit (look T) out x
  out_made x e = out_eq x ∙ rw e

  -- a word stays a word, an array an array
  out_sort : (x : ℕ) → x < n → is_array (out x) ≡ is_array (look T x)
  out_sort x l =
      test_case (marked marks x)
      (λ (e : marked marks x ≡ true).
      ap is_array (out_made x e) ∙ (simplified_stands (2 ^ w) (pow_pos w) limit (look T) out x (read_formed.fits x)).1 ∙ seen_sort (look T) x)
      (λ (e : marked marks x ≡ false). ap is_array (out_kept x l e) ∙ can.kept_sort x l e)

  module _ {r : ℕ} {R : List ℕ} {S : List Range} {removed compared : ℕ} (at : Renewing T R₀ marks w limit n r R S removed compared) (l : r < n) where
    -- the row that stands at r is the one that stood there at the beginning
    stood : look R r ≡ look R₀ r
    stood = ap (λ (t : List ℕ). look t r) at.result ∙ look_above (marked marks) out (source_at T) r R₀ r (le_refl r)

    -- the rows that stand are of the table's sorts
    sort_now : (y : ℕ) → y < r → is_array (look R y) ≡ is_array (look T y)
    sort_now y h = ap is_array (at.rows y h) ∙ out_sort y (lt_trans h l)

    sorts_now : (t : Term) → Names (λ s y. y < r) t → SortsIn T t → SortsIn R t
    sorts_now t low sorts =
        names_widen t (λ s y (h : (y < r) × (is_array (look T y) ≡ s)). sort_now y h.0 ∙ h.1)
        (names_both (λ s y. y < r) (λ s y. is_array (look T y) ≡ s) t low sorts)

    table_sorts : SortsIn R (seen (look T) r)
    table_sorts =
        sorts_now (seen (look T) r) (seen_below (look T) table_below r)
        (names_widen (seen (look T) r) (λ s y (b : Below (seen (look T)) r s y). sym (seen_sort (look T) y) ∙ b.sort) (read_formed.names r))

    row_sorts : SortsIn R (look T r)
    row_sorts =
        sorts_now (look T r) (table_below r) (names_widen (look T r) (λ s y (b : Below (look T) r s y). b.sort) (can.formed.names r))

    -- the rule over the rows that stand is the rule over the outcome
    ruled : rule_at (2 ^ w) limit (look T) (look R) (kept S) r ≡ simplified (2 ^ w) limit (look T) out r
    unfolding simplified
    ruled =
        rule_at_local (λ s y. (y < r) × (is_array (look R y) ≡ s)) (look R) out (sorts_closed R r at.stand at.sorted)
        (λ s y h. at.rows y h.0) (kept S) (range_of (2 ^ w) out) (λ y h. at.ranges y h.0 (sym (sort_now y h.0) ∙ h.1)) (2 ^ w) limit (look T) r
        (names_both (λ s y. y < r) (λ s y. is_array (look R y) ≡ s) (seen (look T) r) (seen_below (look T) table_below r) table_sorts)

    -- and so is what a READ compares
    walked : compared_by limit (look R) (kept S) (look T r) ≡ compared_by limit out (range_of (2 ^ w) out) (look T r)
    walked =
        compared_local (λ s y. (y < r) × (is_array (look R y) ≡ s)) (look R) out (sorts_closed R r at.stand at.sorted)
        (λ s y h. at.rows y h.0) (kept S) (range_of (2 ^ w) out) (λ y h. at.ranges y h.0 (sym (sort_now y h.0) ∙ h.1)) limit (look T r)
        (names_both (λ s y. y < r) (λ s y. is_array (look R y) ≡ s) (look T r) (table_below r) row_sorts)

    same_length : length R ≡ length R₀
    same_length = ap length at.result ∙ length_put_rows (marked marks) out (source_at T) r R₀

    fits : Fits (2 ^ w) (origin T R r (marked marks r))
    unfolding origin
    fits =
        pick_case (Fits (2 ^ w)) (marked marks r) (λ (e : marked marks r ≡ true). read_formed.fits r)
        (λ (e : marked marks r ≡ false). subst (Fits (2 ^ w)) (sym stood) (can.kept_fits r l e))

    names : Names (λ array y. y < r) (origin T R r (marked marks r))
    unfolding origin
    names =
        pick_case (Names (λ array y. y < r)) (marked marks r) (λ (e : marked marks r ≡ true). seen_below (look T) table_below r)
        (λ (e : marked marks r ≡ false). subst (Names (λ array y. y < r)) (sym stood) (can.kept_names r l e))

    sorts : SortsIn R (origin T R r (marked marks r))
    unfolding origin
    sorts =
        pick_case (SortsIn R) (marked marks r) (λ (e : marked marks r ≡ true). table_sorts)
        (λ (e : marked marks r ≡ false). subst (SortsIn R) (sym stood) (sorts_now (look R₀ r) (can.kept_names r l e) (can.kept_sorts r l e)))

    pub can_write : {first : ℕ} → first ≡ first_of (name_at T) r → CanWrite T R S w r first (marked marks r)
    can_write first_is =
        let few : n ≤ 1024 = can.few in
        let up : place r + LENGTH ≤ place n = room_below l in
        let table_room : place n ≤ length T = can.table_room in
        let room : place n ≤ length R₀ = can.room in
        record {
          width = can.width;
          few = omega arith;
          table_room = omega arith;
          room = rw same_length (omega arith);
          rows = at.stand;
          sorted = at.sorted;
          ranges = at.ranged;
          links = at.links;
          fits = fits;
          names = names;
          sorts = sorts;
          first_is = first_is ∙ sym (first_row_is T r);
        }

    module _ (R' : List ℕ) (S' : List Range) {number : ℕ} (turn : Written T R R' S S' w limit r (marked marks r) number) where
      store_room : r < length S
      store_room =
          let long : length S ≡ MOST = sym (keep_length S r _) ∙ ap length (sym turn.store) ∙ turn.long in
          omega (arith, can.few, long)

      -- the row that now stands at r
      made : look R' r ≡ out r
      unfolding becomes
      made =
          turn.row ∙
          test_case (marked marks r)
          (λ (e : marked marks r ≡ true). rw e (ruled ∙ sym (out_made r e)))
          (λ (e : marked marks r ≡ false). rw e (stood ∙ sym (out_kept r l e)))

      put_one : R' ≡ put_if (marked marks r) r (row_of (out r)) (source_at T r) R
      unfolding settled put_if
      put_one =
          turn.result ∙
          pick_alike (marked marks r)
          (λ (e : marked marks r ≡ true). ap (λ (t : Term). put_row R r (row_of t) (source_at T r)) (ruled ∙ sym (out_made r e)))
          (λ (e : marked marks r ≡ false). refl)

      put : R' ≡ put_rows (marked marks) out (source_at T) (r + 1) R₀
      put = put_one ∙ ap (put_if (marked marks r) r (row_of (out r)) (source_at T r)) at.result ∙ sym (put_rows_next (marked marks) out (source_at T) r R₀)

      rows' : (x : ℕ) → x < suc r → look R' x ≡ out x
      unfolding look
      rows' x h =
          dite (dec_lt x r)
          (λ (k : x < r). ap (λ (t : List ℕ). look t x) put_one ∙ ap term_of (put_if_other R r (row_of (out r)) (source_at T r) (marked marks r) x (omega arith)) ∙ at.rows x k)
          (λ (k : x < r → ⊥). let e : x ≡ r = omega arith in rw e made)

      -- the words that it names have their ranges in the store
      words : Names (λ s y. s ≡ false → kept S y ≡ range_of (2 ^ w) out y) (out r)
      words =
          names_widen {W = λ s y. s ≡ false → kept S y ≡ range_of (2 ^ w) out y} (out r)
          (λ s y (k : (y < r) × (is_array (look R' y) ≡ s)) (e : s ≡ false).
          at.ranges y k.0 (sym (out_sort y (lt_trans k.0 l)) ∙ ap is_array (sym (rows' y (lt_trans k.0 (lt-suc_self r)))) ∙ k.1 ∙ e))
          (names_both (λ s y. y < r) (λ s y. is_array (look R' y) ≡ s) (out r) (out_below r) (subst (SortsIn R') made (turn.sorted.sorts r (lt-suc_self r))))

      -- and so has it, where it is a word
      range_now : is_array (look T r) ≡ false → kept S' r ≡ range_of (2 ^ w) out r
      range_now word =
          ap (λ (s : List Range). kept s r) turn.store ∙ keep_same S r _ store_room ∙ ap (entry (2 ^ w) (kept S)) made ∙
          entry_range (2 ^ w) (kept S) (out r) (out_sort r l ∙ word) ∙ range_by_local (2 ^ w) (kept S) (range_of (2 ^ w) out) (out r) words ∙
          sym (range_eq (2 ^ w) out out_below r)

      ranges' : (x : ℕ) → x < suc r → is_array (look T x) ≡ false → kept S' x ≡ range_of (2 ^ w) out x
      ranges' x h word =
          dite (dec_lt x r)
          (λ (k : x < r). ap (λ (s : List Range). kept s x) turn.store ∙ keep_other S r _ x (omega arith) ∙ at.ranges x k word)
          (λ (k : x < r → ⊥). let e : x ≡ r = omega arith in rw e (range_now (rw e at word)))

      -- the stores compared in the turn are those that the outcome's walk compares
      number_is : number ≡ cond (marked marks r) (compared_by limit out (range_of (2 ^ w) out) (look T r)) 0
      unfolding compared_in
      number_is = turn.counted ∙ ap (λ (k : ℕ). cond (marked marks r) k 0) walked

      pub turned : (removed' : ℕ) → removed' ≡ removed + cond (is_read (look T r) && not (is_read (look R' r))) 1 0 →
          Renewing T R₀ marks w limit n (r + 1) R' S' removed' (compared + number)
      unfolding removed_rows compared_rows
      turned removed' e =
          let up : r + 1 ≡ suc r = add-one r in
          record {
            some = omega arith;
            result = put;
            rows = rw up rows';
            ranges = rw up ranges';
            stand = rw up turn.rows;
            sorted = rw up turn.sorted;
            ranged = rw up turn.ranges;
            links = rw up turn.links;
            counted = e ∙ ap₂ (λ (k : ℕ) (t : Term). k + cond (is_read (look T r) && not (is_read t)) 1 0) at.counted made ∙ sym (count_next _ r);
            summed = ap₂ (λ (k m : ℕ). k + m) at.summed number_is ∙ sym (total_next _ r);
          }

pub begun : (T R : List ℕ) (S : List Range) (marks : List ℕ) (w limit n : ℕ) → CanRenew T R S marks w limit n → Renewing T R marks w limit n 0 R S 0 0
unfolding put_rows removed_rows count_where compared_rows total
begun T R S marks w limit n can =
    record {
      some = omega arith;
      result = refl;
      rows = λ x h. absurd (omega arith);
      ranges = λ x h e. absurd (omega arith);
      stand = record { few = omega arith; room = omega (arith, place_grows {r = 0} {n = n} (omega arith), can.room); names = λ x h. absurd (omega arith) };
      sorted = record { sorts = λ x h. absurd (omega arith) };
      ranged = record { proper = λ x h e. absurd (omega arith) };
      links = record { stores = λ x a b c h. absurd (omega arith); ends = λ x h. absurd (omega arith) };
      counted = refl;
      summed = refl;
    }

pub finished : {T R₀ marks : List ℕ} {w limit n r : ℕ} {R : List ℕ} {S : List Range} {removed compared : ℕ} → Renewing T R₀ marks w limit n r R S removed compared → n ≤ r →
    Renewed T R₀ marks w limit n R S (record { removed = removed; compared = compared })
finished {T} {R₀} {marks} {w} {limit} {n} {r} {R} {S} {removed} {compared} at h =
    let e : r ≡ n = omega (arith, at.some) in
    let done : Renewing T R₀ marks w limit n n R S removed compared = rw e at at in
    record { result = done.result; rows = done.rows; ranges = done.ranges; removed = done.counted; compared = done.summed }

pub same_size : {T R₀ marks : List ℕ} {w limit n r : ℕ} {R : List ℕ} {S : List Range} {removed compared : ℕ} → Renewing T R₀ marks w limit n r R S removed compared → length R ≡ length R₀
same_size {T} {R₀} {marks} {w} {limit} {n} {r} at = ap length at.result ∙ length_put_rows (marked marks) (outcome T R₀ (marked marks) w limit n) (source_at T) r R₀
