-- What is known of an accepted table, and that nothing else is asked of one.
use Prim.Native.Nat.{ℕ, ◌^◌}
use mathlib.Core.Path.{◌≡◌, refl, ap}
use mathlib.Core.Bool.{Bool, true, false, not, ◌&&◌, ◌||◌}
use mathlib.Core.List.{List}
use lib.Dec.{leb, eqb}
use borrow.Author.Tests.{ltb-false, leb-true, leb-false, le-leb, lt-leb, le-ltb, eqb-true, eq-eqb, not-false}
use Rattle.basis.proofs.Reasons.{NoneHolds, none_first}
use Rattle.basis.proofs.Pick.{and_left, and_right, and_true, or_left, or_right, or_false}
use Rattle.row.specs.declared.Row.{Row}
use Rattle.row.specs.Names.{VAR}
use Rattle.row.specs.Bytes.{row_at}
use Rattle.table.specs.declared.Uses.{Uses}
use Rattle.table.specs.Uses.{is_used, is_reference, uses_of}
use Rattle.table.specs.Refusals.{width, reference, use_at, any_field, stray_field, large_number, not_below, wrong_sort, bounds_crossed, row_reasons, accepted, check_table, head_reasons}
use Rattle.table.specs.Accepted.{GoodRow, Accepted}
use Rattle.table.proofs.Heads.{good_head, head_none}
use Rattle.table.proofs.Any.{any_none, none_any}
use Rattle.table.proofs.Fields.{refers_below, refers_true, refers_same}
use Rattle.table.proofs.Exactly.{not_refused, accepted_none}

-- ---- tests joined

-- a && b fails where b fails whenever a passes, and the reverse
fails_and : (a b : Bool) → (a ≡ true → b ≡ false) → (a && b) ≡ false
fails_and true b h = h refl
fails_and false b h = refl

and_fails : (a b : Bool) → (a && b) ≡ false → a ≡ true → b ≡ false
and_fails a b e h = rw h at e

-- a field that is zero where it is not used
zero_unused : (used : Bool) (v : ℕ) → (not used && not (eqb v 0)) ≡ false → used ≡ false → v ≡ 0
zero_unused used v e h = eqb-true v 0 (not-false (eqb v 0) (rw h at e))

unused_zero : (used : Bool) (v : ℕ) → (used ≡ false → v ≡ 0) → (not used && not (eqb v 0)) ≡ false
unused_zero true v h = refl
unused_zero false v h = rw (h refl)

-- ---- a row

module _ (t : List ℕ) (r : ℕ) (x : Row) where
  u : Uses
  u = uses_of x.kind

  stray : ℕ → Bool
  stray f = not (is_used (use_at u f)) && not (eqb (reference x f) 0)

  stray_k : Bool
  stray_k = not u.k && not (eqb x.k 0)

  stray_h : Bool
  stray_h = not u.h && not (eqb x.h 0)

  large_k : Bool
  large_k = u.k && leb (2 ^ width t) x.k

  large_h : Bool
  large_h = u.h && leb (2 ^ width t) x.h

  good_row : NoneHolds (row_reasons t r x) → GoodRow t r x (uses_of x.kind)
  unfolding row_reasons stray_field large_number wrong_sort bounds_crossed u stray stray_k stray_h large_k large_h
  good_row none =
      let kind : (leb 1 x.kind && leb x.kind 9) ≡ true = not-false _ none.1.0 in
      let strays : (any_field stray || stray_k || stray_h) ≡ false = none.1.1.0 in
      let larges : (large_k || large_h) ≡ false = none.1.1.1.0 in
      let below = any_none (not_below r u x) none.1.1.1.1.0 in
      let sorts = any_none (wrong_sort t u x) none.1.1.1.1.1.0 in
      record {
        marked = none.0;
        kind_low = leb-true 1 x.kind (and_left (leb 1 x.kind) (leb x.kind 9) kind);
        kind_high = leb-true x.kind 9 (and_right (leb 1 x.kind) (leb x.kind 9) kind);
        unused_zero = λ f l e. zero_unused (is_used (use_at u f)) (reference x f)
            (any_none stray (or_left (any_field stray) stray_k (or_left (any_field stray || stray_k) stray_h strays)) f l) e;
        unused_k = λ e. zero_unused u.k x.k (or_right (any_field stray) stray_k (or_left (any_field stray || stray_k) stray_h strays)) e;
        unused_h = λ e. zero_unused u.h x.h (or_right (any_field stray || stray_k) stray_h strays) e;
        k_word = λ e. leb-false (2 ^ width t) x.k (and_fails u.k _ (or_left large_k large_h larges) e);
        h_word = λ e. leb-false (2 ^ width t) x.h (and_fails u.h _ (or_right large_k large_h larges) e);
        below = λ f l e. refers_below r u x f (below f l) e;
        sort = λ f l e. refers_true _ _ (not-false _ (and_fails (is_reference (use_at u f)) _ (sorts f l) e));
        bounds = λ e. ltb-false x.h x.k (and_fails (eqb x.kind VAR) _ none.1.1.1.1.1.1.0 (eq-eqb x.kind VAR e));
        agrees = none.1.1.1.1.1.1.1.0;
      }

  pub row_good : GoodRow t r x (uses_of x.kind) → NoneHolds (row_reasons t r x)
  unfolding row_reasons stray_field large_number not_below wrong_sort bounds_crossed u stray stray_k stray_h large_k large_h
  row_good good =
      let strays : any_field stray ≡ false = none_any stray (λ f l. unused_zero (is_used (use_at u f)) (reference x f) (good.unused_zero f l)) in (
        good.marked,
        (
          ap not (and_true (leb 1 x.kind) (leb x.kind 9) (le-leb 1 x.kind good.kind_low) (le-leb x.kind 9 good.kind_high)),
          (
            or_false (any_field stray || stray_k) stray_h
                (or_false (any_field stray) stray_k strays (unused_zero u.k x.k good.unused_k))
                (unused_zero u.h x.h good.unused_h),
            (
              or_false large_k large_h
                  (fails_and u.k _ (λ e. lt-leb (2 ^ width t) x.k (good.k_word e)))
                  (fails_and u.h _ (λ e. lt-leb (2 ^ width t) x.h (good.h_word e))),
              (
                none_any (not_below r u x) (λ f l. fails_and (is_reference (use_at u f)) _ (λ e. lt-leb r (reference x f) (good.below f l e))),
                (
                  none_any (wrong_sort t u x) (λ f l. fails_and (is_reference (use_at u f)) _ (λ e. ap not (refers_same _ _ (good.sort f l e)))),
                  (
                    fails_and (eqb x.kind VAR) _ (λ e. le-ltb x.h x.k (good.bounds (eqb-true x.kind VAR e))),
                    (good.agrees, tt),
                  ),
                ),
              ),
            ),
          ),
        ),
      )

-- ---- a table

module _ (t : List ℕ) where
  pub accepted_gives : check_table t ≡ accepted → Accepted t
  accepted_gives e =
      let free = accepted_none t e in
      record {
        head = good_head t (none_first (head_reasons t) free.head);
        row = λ r l. good_row t r (row_at t r) (free.all r l);
      }

  pub gives_accepted : Accepted t → check_table t ≡ accepted
  gives_accepted good =
      not_refused t (record {
        head = head_none t good.head;
        all = λ r l. row_good t r (row_at t r) (good.row r l);
      })
