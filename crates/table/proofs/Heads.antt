-- The head of a table: the ways out of `head`, and what is known where none of 1 to 5 holds.
use Prim.Native.Nat.{ℕ, ◌≤◌, ◌<◌}
use native.Mathlib.Omega.{arith}
use mathlib.Core.Path.{◌≡◌, refl, ap}
use mathlib.Core.Bool.{Bool, true, false, not, ◌||◌}
use mathlib.Core.List.{List}
use lib.Dec.{ltb, eqb}
use lib.ListN.{length}
use borrow.Author.Tests.{lt-ltb, le-ltb, ltb-false, eq-eqb, ne_eqb, eqb-true, eqb-false, not-false}
use Rattle.basis.specs.Reason.{first}
use Rattle.basis.proofs.Pick.{or_left, or_right, or_false}
use Rattle.basis.proofs.Reasons.{NoneHolds, first_none}
use Rattle.row.proofs.Places.{header_below}
use Rattle.row.specs.Names.{HEADER, place}
use Rattle.in_bytes.specs.Numbers.{Read}
use Rattle.table.specs.Refusals.{width, rows, MOST, head_wrong, head_reasons}
use Rattle.table.specs.Accepted.{GoodHead}

module _ (t : List ℕ) where
  pub head_1 : length t < HEADER → 1 ≡ first (head_reasons t)
  unfolding first head_reasons
  head_1 short = rw (lt-ltb (length t) HEADER short)

  module _ (long : HEADER ≤ length t) {mark : Bool} (mark_is : mark ≡ head_wrong t) where
    pub head_2 : mark ≡ true → 2 ≡ first (head_reasons t)
    unfolding first head_reasons
    head_2 wrong = rw (le-ltb (length t) HEADER long, ← mark_is, wrong)

    module _ (right : mark ≡ false) {w : ℕ} (w_is : Read (width t) 256 w) where
      pub head_3 : (eqb w 0 || ltb 64 w) ≡ true → 3 ≡ first (head_reasons t)
      unfolding first head_reasons
      head_3 wrong = rw (le-ltb (length t) HEADER long, ← mark_is, right, ← w_is.is, wrong)

      module _ (wide : (eqb w 0 || ltb 64 w) ≡ false) {n : ℕ} (n_is : Read (rows t) 65536 n) where
        pub head_4 : MOST < n → 4 ≡ first (head_reasons t)
        unfolding first head_reasons
        head_4 many = rw (le-ltb (length t) HEADER long, ← mark_is, right, ← w_is.is, wide, ← n_is.is, lt-ltb MOST n many)

        module _ (few : n ≤ MOST) {p : ℕ} (p-is : p ≡ place n) where
          pub head_5 : (length t ≡ p → ⊥) → 5 ≡ first (head_reasons t)
          unfolding first head_reasons
          head_5 other =
              rw (
                le-ltb (length t) HEADER long,
                ← mark_is,
                right,
                ← w_is.is,
                wide,
                ← n_is.is,
                le-ltb MOST n few,
                ← p-is,
                ne_eqb (length t) p other,
              )

          pub head_0 : length t ≡ p → 0 ≡ first (head_reasons t)
          unfolding first head_reasons
          head_0 same =
              rw (
                le-ltb (length t) HEADER long,
                ← mark_is,
                right,
                ← w_is.is,
                wide,
                ← n_is.is,
                le-ltb MOST n few,
                ← p-is,
                eq-eqb (length t) p same,
              )

-- where none of 1 to 5 holds, and the reverse
pub good_head : (t : List ℕ) → first (head_reasons t) ≡ 0 → GoodHead t
unfolding head_reasons
good_head t e =
    let none = first_none (head_reasons t) refl e in
    let some : width t ≡ 0 → ⊥ = eqb-false (width t) 0 (or_left (eqb (width t) 0) (ltb 64 (width t)) none.1.1.0) in
    record {
      mark = none.1.0;
      width_low = omega arith;
      width_high = ltb-false 64 (width t) (or_right (eqb (width t) 0) (ltb 64 (width t)) none.1.1.0);
      few = ltb-false MOST (rows t) none.1.1.1.0;
      size = eqb-true (length t) (place (rows t)) (not-false _ none.1.1.1.1.0);
    }

pub head_none : (t : List ℕ) → GoodHead t → NoneHolds (head_reasons t)
unfolding head_reasons
head_none t good =
    let low : 1 ≤ width t = good.width_low in
    let long : HEADER ≤ length t = rw good.size (header_below (rows t)) in (
      le-ltb (length t) HEADER long,
      (
        good.mark,
        (
          or_false (eqb (width t) 0) (ltb 64 (width t)) (ne_eqb (width t) 0 (λ e. omega arith)) (le-ltb 64 (width t) good.width_high),
          (
            le-ltb MOST (rows t) good.few,
            (ap not (eq-eqb (length t) (place (rows t)) good.size), tt),
          ),
        ),
      ),
    )

pub long_head : (t : List ℕ) → first (head_reasons t) ≡ 0 → HEADER ≤ length t
long_head t e = rw (good_head t e).size (header_below (rows t))
