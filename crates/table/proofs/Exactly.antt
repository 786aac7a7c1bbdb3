-- "Given exactly when": a number and row are given exactly when the number's reason is the first that holds,
-- in the order of documents 01 and 02, and the row is the first faulty one; a table is accepted exactly when no reason holds.
use Prim.Native.Nat.{ℕ, ◌+◌, ◌<◌}
use native.Mathlib.Omega.{arith}
use mathlib.Core.Path.{◌≡◌, refl, sym, ap, subst₂, ◌∙◌}
use mathlib.Core.Logic.{◌⊎◌, inl, inr, ⊎_elim}
use mathlib.Core.List.{List}
use lib.Dec.{eqb}
use borrow.Author.Tests.{eqb-true, eqb-false}
use Rattle.basis.specs.Reason.{first}
use Rattle.basis.proofs.Pick.{test_case}
use Rattle.basis.proofs.Reasons.{NoneHolds, FirstHolds, first_none, none_first, first_holds, holds_first}
use Rattle.row.specs.Bytes.{row_at}
use Rattle.table.specs.Verdict.{Verdict}
use Rattle.table.specs.Refusals.{rows, head_reasons, row_reasons, row_fault, refuse, accepted, check_rows, check_table}
use Rattle.table.proofs.Faulty.{given_passes, given_refuses, refuse_number, refuse_row, AllPass, FirstFault, all_pass_after, first_fault_given, scanned, accepted_all, refused_same}

-- 1 to 5
abbrev pub HeadPasses : List ℕ → Type 0
HeadPasses t = NoneHolds (head_reasons t)

-- 9 to 15 and 18 of row r
abbrev pub RowPasses : List ℕ → ℕ → Type 0
RowPasses t r = NoneHolds (row_reasons t r (row_at t r))

-- a number of 1 to 5 is given, with row 0
pub record HeadRefused (t : List ℕ) (number row : ℕ) : Type 0 where
  pub holds : FirstHolds number (head_reasons t)
  pub at : row ≡ 0

-- a number of 9 to 15 or 18 is given, with its row
pub record RowRefused (t : List ℕ) (number row : ℕ) : Type 0 where
  pub head : HeadPasses t
  pub within : row < rows t
  pub before : (r : ℕ) → r < row → RowPasses t r
  pub holds : FirstHolds number (row_reasons t row (row_at t row))

pub record NotRefused (t : List ℕ) : Type 0 where
  pub head : HeadPasses t
  pub all : (r : ℕ) → r < rows t → RowPasses t r

-- the three outcomes
data Judged (t : List ℕ) : Type 0 where
  by_head : (number row : ℕ) → (number ≡ 0 → ⊥) → HeadRefused t number row → Judged t
  by_row : (number row : ℕ) → (number ≡ 0 → ⊥) → RowRefused t number row → Judged t
  none : NotRefused t → Judged t

-- ---- one row's number

row_passes : (t : List ℕ) (r : ℕ) → row_fault t r ≡ 0 → RowPasses t r
unfolding row_fault row_reasons
row_passes t r e = first_none (row_reasons t r (row_at t r)) refl e

pub passes_row : (t : List ℕ) (r : ℕ) → RowPasses t r → row_fault t r ≡ 0
unfolding row_fault
passes_row t r h = none_first (row_reasons t r (row_at t r)) h

head_passes : (t : List ℕ) → first (head_reasons t) ≡ 0 → HeadPasses t
unfolding head_reasons
head_passes t e = first_none (head_reasons t) refl e

-- ---- what is given when

module _ (t : List ℕ) where
  pub head_refusal : (number row : ℕ) → (number ≡ 0 → ⊥) → HeadRefused t number row → check_table t ≡ refuse number row
  unfolding check_table
  head_refusal number row some h =
      let e : first (head_reasons t) ≡ number = holds_first number (head_reasons t) h.holds in
      rw (e, h.at) (given_refuses number 0 (check_rows t accepted) some)

  -- check_rows with anything after it
  pub row_refusal : (number row : ℕ) (after : Verdict) → (number ≡ 0 → ⊥) → RowRefused t number row → check_rows t after ≡ refuse number row
  unfolding check_rows row_fault
  row_refusal number row after some h =
      let e : row_fault t row ≡ number = holds_first number (row_reasons t row (row_at t row)) h.holds in
      first_fault_given (row_fault t) (rows t) 0 row after (record {
        low = omega arith;
        high = let w : row < rows t = h.within in omega arith;
        before = λ p low high. passes_row t p (h.before p high);
        fails = λ z. some (sym e ∙ z);
      }) ∙ ap (λ (k : ℕ). refuse k row) e

  pub rows_pass : (after : Verdict) → ((r : ℕ) → r < rows t → RowPasses t r) → check_rows t after ≡ after
  unfolding check_rows
  rows_pass after all = all_pass_after (row_fault t) (rows t) 0 after (λ q low high. passes_row t q (all q (omega arith)))

  past_head : HeadPasses t → check_table t ≡ check_rows t accepted
  unfolding check_table
  past_head h = given_passes (first (head_reasons t)) 0 (check_rows t accepted) (none_first (head_reasons t) h)

-- every table is one of the three
judged : (t : List ℕ) → Judged t
unfolding row_fault
judged t =
    test_case (eqb (first (head_reasons t)) 0)
    (λ e.
    let head : HeadPasses t = head_passes t (eqb-true (first (head_reasons t)) 0 e) in
    ⊎_elim
    (λ (pass : AllPass (row_fault t) (rows t) 0).
    none (record { head = head; all = λ r l. row_passes t r (pass r (omega arith) (omega arith)) }))
    (λ (h : (q : ℕ) × FirstFault (row_fault t) (rows t) 0 q).
    let q = h.0 in
    by_row (row_fault t q) q h.1.fails (record {
      head = head;
      within = let high : q < 0 + rows t = h.1.high in omega arith;
      before = λ r l. row_passes t r (h.1.before r (omega arith) l);
      holds = first_holds (row_fault t q) (row_reasons t q (row_at t q)) h.1.fails refl;
    }))
    (scanned (row_fault t) (rows t) 0))
    (λ e.
    let number = first (head_reasons t) in
    let some : number ≡ 0 → ⊥ = eqb-false number 0 e in
    by_head number 0 some (record { holds = first_holds number (head_reasons t) some refl; at = refl }))

-- ---- exactly when

module _ (t : List ℕ) where
  pub not_refused : NotRefused t → check_table t ≡ accepted
  not_refused h = past_head t h.head ∙ rows_pass t accepted h.all

  pub accepted_none : check_table t ≡ accepted → NotRefused t
  unfolding accepted
  accepted_none e = by (judged t)
    where
      by : Judged t → NotRefused t
      by (by_head k r some h) = absurd (some (refuse_number k 0 r 0 (sym (head_refusal t k r some h) ∙ e)))
      by (by_row k r some h) = absurd (some (refuse_number k 0 r 0 (sym (row_refusal t k r accepted some h) ∙ sym (past_head t h.head) ∙ e)))
      by (none h) = h

  -- a table is refused with a number and row exactly when
  pub refusal_given : (number row : ℕ) → (number ≡ 0 → ⊥) → HeadRefused t number row ⊎ RowRefused t number row → check_table t ≡ refuse number row
  refusal_given number row some (inl h) = head_refusal t number row some h
  refusal_given number row some (inr h) = past_head t h.head ∙ row_refusal t number row accepted some h

  pub given_refusal : (number row : ℕ) → (number ≡ 0 → ⊥) → check_table t ≡ refuse number row → HeadRefused t number row ⊎ RowRefused t number row
  unfolding accepted
  given_refusal number row some e = by (judged t)
    where
      by : Judged t → HeadRefused t number row ⊎ RowRefused t number row
      by (by_head k r held h) =
          let same : refuse k r ≡ refuse number row = sym (head_refusal t k r held h) ∙ e in
          inl (subst₂ (λ (m s : ℕ). HeadRefused t m s) (refuse_number k number r row same) (refuse_row k number r row same) h)
      by (by_row k r held h) =
          let same : refuse k r ≡ refuse number row = sym (refusal_given k r held (inr h)) ∙ e in
          inr (subst₂ (λ (m s : ℕ). RowRefused t m s) (refuse_number k number r row same) (refuse_row k number r row same) h)
      by (none h) = absurd (some (sym (refuse_number 0 number 0 row (sym (not_refused h) ∙ e))))

  -- what comes after the rows is given where they all pass; elsewhere it does not matter
  pub after_rows : (after : Verdict) → check_rows t accepted ≡ accepted → check_rows t after ≡ after
  unfolding check_rows
  after_rows after e = all_pass_after (row_fault t) (rows t) 0 after (accepted_all (row_fault t) (rows t) 0 e)

  pub before_after : (after : Verdict) → (check_rows t accepted ≡ accepted → ⊥) → check_rows t after ≡ check_rows t accepted
  unfolding check_rows
  before_after after h = refused_same (row_fault t) (rows t) 0 after h
