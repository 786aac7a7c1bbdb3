-- The scan of the rows: what a row is refused with, and what is left to scan gives the whole answer, at each way on and out.
use Prim.Native.Nat.{ℕ, suc, ◌+◌, ◌-◌, ◌≤◌, ◌<◌}
use native.Mathlib.Nat.{sub-zero}
use native.Mathlib.Numerals.{add-one}
use native.Mathlib.Omega.{arith}
use mathlib.Core.Path.{◌≡◌, refl, sym, ap, ◌∙◌}
use mathlib.Core.Bool.{Bool, true, false, ◌||◌}
use mathlib.Core.List.{List}
use lib.ListN.{length, take, drop}
use borrow.Author.Tests.{ne_eqb}
use Rattle.basis.specs.Reason.{first}
use Rattle.row.specs.declared.Row.{Row}
use Rattle.row.specs.Names.{LENGTH, place}
use Rattle.in_bytes.specs.Numbers.{Read}
use Rattle.row.specs.Bytes.{row_at, Decoded}
use Rattle.table.specs.declared.Fault.{Fault}
use Rattle.table.specs.declared.Uses.{Uses}
use Rattle.table.specs.Verdict.{Verdict}
use Rattle.table.specs.Fault.{number_of}
use Rattle.table.specs.Uses.{uses_of}
use Rattle.table.specs.Refusals.{width, rows, any_field, not_below, wrong_sort, bounds_crossed, other_bounds, head_reasons, row_reasons, row_fault, refuse, accepted, given, first_faulty, check_rows, check_table}
use Rattle.scan.proofs.Any.{any_below, any_next, any_all, any_here}
use Rattle.table.proofs.Heads.{good_head}
use Rattle.table.proofs.Told.{fault_some}
use Rattle.basis.proofs.Reasons.{first_past, first_within}
use Rattle.row.proofs.Places.{room_in}
use Rattle.table.specs.Accepted.{GoodHead}
use Rattle.faults.specs.Asked.{OwnAsked, Named, FirstAsked}
use Rattle.clean.specs.Clean.{Asked, NoFault}
use Rattle.names.specs.First.{name_at, first_of}
use Rattle.names.specs.Slots.{Slots, CanFind, Found}
use Rattle.names.proofs.First.{first_of_low}
use Rattle.names.proofs.Slots.{nameless_slots}
use Rattle.scan.specs.Row.{RowAsked}

-- ---- one row

-- row r, which is x, passed 9 to 12, and its fields below f passed 13; `mixed` is whether one of them fails 14
pub record Looking (t : List ℕ) (r : ℕ) (x : Row) (u : Uses) (mixed : Bool) (f : ℕ) : Type 0 where
  pub uses_is : u ≡ uses_of x.kind
  pub own : first (take 4 (row_reasons t r x)) ≡ 0
  pub upto : f ≤ 3
  pub below : any_below (not_below r u x) f ≡ false
  pub sorts : any_below (wrong_sort t u x) f ≡ mixed

module _ (t : List ℕ) (w r : ℕ) (x : Row) (slots : List ℕ) (at : RowAsked t w r x slots) where
  pub row_room : place r + LENGTH ≤ length t
  row_room = room_in t at.within at.head.size

  module _ (u : Uses) (uses_is : u ≡ uses_of x.kind) where
    pub own_asked : OwnAsked t w r u x
    own_asked =
        record {
          is_width = at.is_width;
          is_uses = uses_is;
          within = row_room;
        }

    pub stopped_own : (fault : Fault) → number_of fault ≡ first (take 4 (row_reasons t r x)) → number_of fault ≡ row_fault t r
    unfolding row_fault
    stopped_own fault is =
        rw (← at.is_row) (is ∙ sym (first_within 4 (row_reasons t r x) (λ e. fault_some fault (is ∙ e))))

    pub looking : 0 ≡ first (take 4 (row_reasons t r x)) → Looking t r x u false 0
    unfolding any_below
    looking none = record { uses_is = uses_is; own = sym none; upto = omega arith; below = refl; sorts = refl }

  -- ---- the ways on and out while the fields are looked at, and after

  module _ (u : Uses) (mixed : Bool) (f : ℕ) (look : Looking t r x u mixed f) where
    open look use {uses_is, own}

    -- 13 to 15 and 18 decide
    rest : row_fault t r ≡ first (drop 4 (row_reasons t r x))
    unfolding row_fault row_reasons
    rest = rw (← at.is_row) (first_past 4 (row_reasons t r x) refl own)

    fault_13 : any_field (not_below r u x) ≡ true → 13 ≡ row_fault t r
    unfolding first row_reasons
    fault_13 e = sym (rw (rest, ← uses_is, e))

    fault_14 : any_field (not_below r u x) ≡ false → any_field (wrong_sort t u x) ≡ true → 14 ≡ row_fault t r
    unfolding first row_reasons
    fault_14 d e = sym (rw (rest, ← uses_is, d, e))

    fault_15 : any_field (not_below r u x) ≡ false → any_field (wrong_sort t u x) ≡ false → bounds_crossed x ≡ true → 15 ≡ row_fault t r
    unfolding first row_reasons
    fault_15 c d e = sym (rw (rest, ← uses_is, c, d, e))

    fault_18 : any_field (not_below r u x) ≡ false → any_field (wrong_sort t u x) ≡ false → bounds_crossed x ≡ false
        → other_bounds x (row_at t (first_of (name_at t) r)) ≡ true → 18 ≡ row_fault t r
    unfolding first row_reasons
    fault_18 b c d e = sym (rw (rest, ← uses_is, b, c, d, e))

    fault_0 : any_field (not_below r u x) ≡ false → any_field (wrong_sort t u x) ≡ false → bounds_crossed x ≡ false
        → other_bounds x (row_at t (first_of (name_at t) r)) ≡ false → 0 ≡ row_fault t r
    unfolding first row_reasons
    fault_0 b c d e = sym (rw (rest, ← uses_is, b, c, d, e))

    module _ (field : f < 3) {late : Bool} (late_is : late ≡ not_below r u x f) where
      pub stopped_13 : late ≡ true → 13 ≡ row_fault t r
      stopped_13 e = fault_13 (any_here (not_below r u x) f field (sym late_is ∙ e))

      module _ (early : late ≡ false) where
        pub named_asked : Named t r u x f
        named_asked =
            record {
              field = field;
              below = sym late_is ∙ early;
              within = let room : place r + LENGTH ≤ length t = row_room in omega arith;
            }

        pub looked : {wrong : Bool} → wrong ≡ wrong_sort t u x f → Looking t r x u (mixed || wrong) (f + 1)
        looked wrong_is =
            record {
              uses_is = uses_is;
              own = own;
              upto = omega arith;
              below = any_next (not_below r u x) f look.below (sym late_is ∙ early);
              sorts = any_next (wrong_sort t u x) f look.sorts (sym wrong_is);
            }

    module _ (all : 3 ≤ f) where
      last : f ≡ 3
      last = let upto : f ≤ 3 = look.upto in omega arith

      below_all : any_field (not_below r u x) ≡ false
      below_all = sym (any_all (not_below r u x) f last) ∙ look.below

      sorts_all : any_field (wrong_sort t u x) ≡ mixed
      sorts_all = sym (any_all (wrong_sort t u x) f last) ∙ look.sorts

      pub stopped_14 : mixed ≡ true → 14 ≡ row_fault t r
      stopped_14 e = fault_14 below_all (sorts_all ∙ e)

      module _ (unmixed : mixed ≡ false) {crossed : Bool} (crossed-is : crossed ≡ bounds_crossed x) where
        pub stopped_15 : crossed ≡ true → 15 ≡ row_fault t r
        stopped_15 e = fault_15 below_all (sorts_all ∙ unmixed) (sym crossed-is ∙ e)

        module _ (ordered : crossed ≡ false) {first : ℕ} {after : List ℕ} (found : Found t r first after)
            {differ : Bool} (differ-is : differ ≡ other_bounds x (row_at t first)) where
          of_first : other_bounds x (row_at t (first_of (name_at t) r)) ≡ differ
          of_first = ap (λ (y : ℕ). other_bounds x (row_at t y)) (sym found.is) ∙ sym differ-is

          pub stopped_18 : differ ≡ true → 18 ≡ row_fault t r
          stopped_18 e = fault_18 below_all (sorts_all ∙ unmixed) (sym crossed-is ∙ ordered) (of_first ∙ e)

          pub passed : differ ≡ false → 0 ≡ row_fault t r
          passed e = fault_0 below_all (sorts_all ∙ unmixed) (sym crossed-is ∙ ordered) (of_first ∙ e)

  -- the first row of its name is asked for, and then its bounds
  pub first_asked : CanFind t slots r
  first_asked =
      let l : r < rows t = at.within in
      record {
        here = row_room;
        few = omega (arith, at.head.few);
        valid = at.asked;
      }

  pub bounds_asked : {first : ℕ} {after : List ℕ} → Found t r first after → FirstAsked t r x first
  bounds_asked found =
      record {
        is_row = at.is_row;
        low = rw found.is (first_of_low (name_at t) r);
        within = row_room;
      }

pub asked_next : {t after : List ℕ} {r first : ℕ} → Found t r first after → Slots t after (r + 1)
asked_next found = rw add-one found.valid

-- ---- the rows

-- rows below r are in order, and were asked for their first rows: what is left of the n rows gives the whole answer
pub record Scanning (t : List ℕ) (w n : ℕ) (slots : List ℕ) (r : ℕ) : Type 0 where
  pub good : GoodHead t
  pub w_is : w ≡ width t
  pub n_is : n ≡ rows t
  pub left : first_faulty (row_fault t) (n - r) r accepted ≡ check_rows t accepted
  pub asked : Slots t slots r

module _ (t : List ℕ) (w n : ℕ) where
  pub entered : first (head_reasons t) ≡ 0 → Read (width t) 256 w → Read (rows t) 65536 n → {slots : List ℕ} → ((u : List ℕ) → Slots u slots 0) → Scanning t w n slots 0
  unfolding check_rows
  entered e w_read n_read none =
      record {
        good = good_head t e;
        w_is = w_read.is;
        n_is = n_read.is;
        left = rw (sub-zero, n_read.is);
        asked = none t;
      }

  module _ (slots : List ℕ) (r : ℕ) (scan : Scanning t w n slots r) where
    pub passed_all : n ≤ r → ◌≡◌ {A = Verdict} (record { number = 0; row = 0 }) (check_rows t accepted)
    unfolding first_faulty accepted refuse
    passed_all e =
        let none : n - r ≡ 0 = omega arith in
        rw none at scan.left

    module _ (more : r < n) where
      left_here : given (row_fault t r) r (first_faulty (row_fault t) (n - suc r) (suc r) accepted) ≡ check_rows t accepted
      unfolding first_faulty
      left_here =
          let e : n - r ≡ suc (n - suc r) = omega arith in
          rw e at scan.left

      pub decoded_room : place r + LENGTH ≤ length t
      decoded_room = room_in t more (scan.good.size ∙ ap place (sym scan.n_is))

      pub stopped : (fault : Fault) → number_of fault ≡ row_fault t r → ◌≡◌ {A = Verdict} (record { number = number_of fault; row = r }) (check_rows t accepted)
      unfolding given refuse
      stopped fault e = rw (sym e, ne_eqb (number_of fault) 0 (fault_some fault)) at left_here

      pub next_row : {after : List ℕ} → 0 ≡ row_fault t r → Slots t after (r + 1) → Scanning t w n after (r + 1)
      unfolding given
      next_row e asked =
          record {
            good = scan.good;
            w_is = scan.w_is;
            n_is = scan.n_is;
            left = rw add-one (rw (sym e) at left_here);
            asked = asked;
          }

      pub clean_asked : (x : Row) → Decoded t r x → Asked t w r x
      clean_asked x decoded =
          record {
            is_width = scan.w_is;
            is_row = decoded.is;
            within = decoded_room;
          }

      -- a row that is seen to have no fault
      pub skipped : {clean : Bool} → NoFault t r clean → clean ≡ true → Scanning t w n slots (r + 1)
      skipped told e = next_row (sym (told.fault e)) (rw add-one (nameless_slots t slots r scan.asked (told.name e)))

      pub row_asked : (x : Row) → Decoded t r x → RowAsked t w r x slots
      row_asked x decoded =
          record { head = scan.good; is_width = scan.w_is; within = rw scan.n_is at more; is_row = decoded.is; asked = scan.asked }

-- ---- the whole check

module _ (t : List ℕ) where
  pub head_checked : (fault : Fault) → number_of fault ≡ first (head_reasons t) → ◌≡◌ {A = Verdict} (record { number = number_of fault; row = 0 }) (check_table t)
  unfolding check_table given refuse
  head_checked fault is = rw (← is, ne_eqb (number_of fault) 0 (fault_some fault))

  pub rows_checked : {v : Verdict} → 0 ≡ first (head_reasons t) → v ≡ check_rows t accepted → v ≡ check_table t
  unfolding check_table given
  rows_checked none e = rw (e, ← none)
