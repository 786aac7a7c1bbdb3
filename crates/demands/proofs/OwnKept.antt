-- With the table's own kept result, made with any limit, 16 is given exactly where the edit changes row r between word and array: document 01, "Edit".
use Prim.Native.Nat.{ℕ}
use native.Mathlib.Decide.{ℕ_discrete}
use mathlib.Core.Path.{◌≡◌, refl, ap, sym, ◌∙◌}
use mathlib.Core.Bool.{Bool, true, false, beq, not, ◌||◌}
use mathlib.Core.Logic.{dite}
use mathlib.Core.List.{List}
use lib.ListN.{take}
use Rattle.basis.specs.Reason.{first}
use Rattle.basis.proofs.Pick.{or_true_right}
use Rattle.basis.proofs.Counts.{any_here}
use Rattle.row.specs.Names.{HEADER}
use Rattle.row.proofs.Places.{header_below}
use Rattle.row.proofs.Rows.{row_stays, take_stays}
use Rattle.table.specs.Refusals.{rows, refuse, accepted, check_rows, check_table}
use Rattle.table.proofs.Faulty.{given_passes}
use Rattle.table.proofs.Exactly.{after_rows}
use Rattle.term.specs.Term.{term_of, is_array}
use Rattle.term.specs.Bytes.{look, edited}
use Rattle.term.proofs.Acceptable.{same_rows}
use Rattle.judge.specs.Verdict.{is_accepted}
use Rattle.judge.specs.Kept.{kept_part, other_header, other_sorts, kept_wrong, kept_verdict}
use Rattle.judge.specs.Edit.{edit_reasons}
use Rattle.judge.proofs.Verdicts.{accepted_is}
use Rattle.judge.proofs.Granted.{EditReady, edit_ready}
use Rattle.judge.proofs.Right.{kept_goes, kept_stops}
use Rattle.simplify.specs.Edit.{edit_verdict}
use Rattle.demands.specs.Own.{Own}
use Rattle.demands.proofs.Owned.{goes_with, part_accepted, part_head, part_sort}

unlike_beq : (a b : Bool) → (a ≡ b → ⊥) → not (beq a b) ≡ true
unlike_beq true true h = absurd (h refl)
unlike_beq true false h = refl
unlike_beq false true h = refl
unlike_beq false false h = absurd (h refl)

module _
    {made : ℕ}
    (t kept : List ℕ)
    (r : ℕ)
    (new : List ℕ)
    (limit : ℕ)
    (own : Own made t kept)
    (numbers : first (edit_reasons t kept r new limit) ≡ 0)
    (scanned : check_rows (edited t r new) accepted ≡ accepted)
  where
    abbrev e : List ℕ
    e = edited t r new

    abbrev part : List ℕ
    part = kept_part t kept

    ready : EditReady t kept r new limit
    ready = edit_ready t kept r new limit numbers

    edited_head : take HEADER e ≡ take HEADER t
    unfolding edited
    edited_head = take_stays t r new ready.long HEADER (header_below r)

    others : (x : ℕ) → (x ≡ r → ⊥) → is_array (look e x) ≡ is_array (look t x)
    unfolding look edited
    others x other = ap (λ y. is_array (term_of y)) (row_stays t r new ready.long x other)

    verdict : edit_verdict t kept r new limit ≡ kept_verdict e part accepted
    unfolding edit_verdict
    verdict = given_passes _ 0 _ numbers ∙ after_rows e (kept_verdict e part accepted) scanned

    edited_rows_lem : rows e ≡ rows t
    edited_rows_lem = same_rows e t edited_head

    -- the sort of row r stays: the edit is accepted
    pub same_sort_accepted : is_array (look e r) ≡ is_array (look t r) → is_accepted (edit_verdict t kept r new limit) ≡ true
    unfolding accepted refuse
    same_sort_accepted same =
        accepted_is _
        (ap (λ v. v.number)
        (verdict ∙
        kept_goes e part accepted
        (goes_with e part (part_accepted t kept own) (part_head t kept own ∙ sym edited_head) (λ x. part_sort t kept own x ∙ sym (sorts x)))))
      where
        sorts : (x : ℕ) → is_array (look e x) ≡ is_array (look t x)
        sorts x = dite (ℕ_discrete x r) (λ (same_row : x ≡ r). rw same_row same) (λ (other : x ≡ r → ⊥). others x other)

    -- it changes: 16
    pub other_sort_refused : (is_array (look e r) ≡ is_array (look t r) → ⊥) → edit_verdict t kept r new limit ≡ refuse 16 0
    unfolding kept_wrong other_sorts
    other_sort_refused other =
        verdict ∙
        kept_stops e part accepted
        (or_true_right (not (is_accepted (check_table part)) || other_header e part) (other_sorts e part)
        (any_here _ (rows e) r (rw edited_rows_lem ready.row) (unlike_beq _ _ (λ same. other (sym same ∙ part_sort t kept own r)))))
