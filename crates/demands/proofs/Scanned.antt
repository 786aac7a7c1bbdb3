-- Some numbered reasons and then the rows of a table: the first of the reasons that holds, with row 0, then 9 to 15 and 18 of the first faulty row. Given exactly
-- when; and what comes after is the verdict exactly where none of these holds.
use Prim.Native.Nat.{ℕ}
use mathlib.Core.Path.{◌≡◌, refl, sym, ap, ◌∙◌}
use mathlib.Core.Bool.{true}
use mathlib.Core.List.{List}
use mathlib.Core.Logic.{⊎_elim}
use lib.Dec.{eqb}
use borrow.Author.Tests.{eqb-true, eqb-false}
use Rattle.basis.specs.Reason.{Reason, first}
use Rattle.basis.proofs.Pick.{test_case}
use Rattle.basis.proofs.Reasons.{NoneHolds, FirstHolds, numbered, first_none, none_first, first_holds, holds_first}
use Rattle.table.specs.Verdict.{Verdict}
use Rattle.table.specs.Refusals.{head_reasons, refuse, accepted, given, check_rows, check_table}
use Rattle.table.proofs.Faulty.{given_passes, given_refuses}
use Rattle.table.proofs.Exactly.{HeadRefused, RowRefused, row_refusal, given_refusal}
use Rattle.judge.proofs.Verdicts.{given_after, rows_pass, table_passes}
use Rattle.demands.proofs.Judged.{Judged, refused, granted}

-- a number is given, with a row
pub data FirstGiven (reasons : List Reason) (t : List ℕ) : ℕ → ℕ → Type 0 where
  -- the first of the reasons that holds, with row 0
  early : {number : ℕ} → FirstHolds number reasons → FirstGiven reasons t number 0
  -- 9 to 15 and 18, where none of them holds: the first of the first faulty row, with that row
  by_row : {number row : ℕ} → NoneHolds reasons → RowRefused t number row → FirstGiven reasons t number row

-- none of them holds
pub record NoneGiven (reasons : List Reason) (t : List ℕ) : Type 0 where
  pub numbers : first reasons ≡ 0
  pub table : check_table t ≡ accepted

module _ (reasons : List Reason) (t : List ℕ) where
  -- a number is given, whatever comes after
  pub given_stops : (number row : ℕ) → (number ≡ 0 → ⊥) → FirstGiven reasons t number row → (after : Verdict) →
      given (first reasons) 0 (check_rows t after) ≡ refuse number row
  given_stops number row some (early h) after = rw (holds_first number reasons h) (given_refuses number 0 _ some)
  given_stops number row some (by_row none h) after = given_passes _ 0 _ (none_first reasons none) ∙ row_refusal t number row after some h

  -- none is given: what comes after is
  pub given_goes : NoneGiven reasons t → (after : Verdict) → given (first reasons) 0 (check_rows t after) ≡ after
  unfolding check_table accepted refuse
  given_goes p after =
      given_passes _ 0 _ p.numbers ∙ rows_pass t accepted after (given_after _ 0 (check_rows t accepted) (ap (λ (v : Verdict). v.number) p.table))

  -- where the reasons have numbers, and 1 to 5 of the table do not hold where they do not
  module _ (all_numbered : numbered reasons ≡ true) (headed : first reasons ≡ 0 → first (head_reasons t) ≡ 0) where
    row_stops : first reasons ≡ 0 → ((check_table t).number ≡ 0 → ⊥) → RowRefused t (check_table t).number (check_table t).row
    unfolding refuse
    row_stops zero_first some =
        ⊎_elim
        (λ (h : HeadRefused t (check_table t).number (check_table t).row).
        absurd (some (sym (holds_first _ (head_reasons t) h.holds) ∙ headed zero_first)))
        (λ (h : RowRefused t (check_table t).number (check_table t).row). h)
        (given_refusal t (check_table t).number (check_table t).row some refl)

    -- one of them holds, or none
    pub given_or_not : Judged (FirstGiven reasons t) (NoneGiven reasons t)
    unfolding check_table
    given_or_not =
        test_case (eqb (first reasons) 0)
        (λ e.
        let zero_first : first reasons ≡ 0 = eqb-true _ _ e in
        test_case (eqb (check_table t).number 0)
        (λ z.
        granted (record {
          numbers = zero_first;
          table = table_passes t accepted (headed zero_first) (given_after _ 0 (check_rows t accepted) (eqb-true _ _ z));
        }))
        (λ z.
        refused (check_table t).number (check_table t).row (eqb-false _ _ z)
        (by_row (first_none reasons all_numbered zero_first) (row_stops zero_first (eqb-false _ _ z)))))
        (λ e. refused (first reasons) 0 (eqb-false _ _ e) (early (first_holds _ reasons (eqb-false _ _ e) refl)))
