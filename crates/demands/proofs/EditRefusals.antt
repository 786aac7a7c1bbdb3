-- The refusals of an edit, given exactly when: 1 to 8 in their order, then 19, then 9 to 15 and 18 of the first faulty row of the table with the replacement in
-- place, then 16; accepted exactly when none holds. 19 with the row 0 is given exactly where none of 1 to 8 holds and the limit is above 1,024, and then nothing
-- changes.
use Prim.Native.Nat.{ℕ, ◌<◌}
use native.Mathlib.Omega.{arith}
use mathlib.Core.Path.{◌≡◌, refl, ap, ◌∙◌}
use mathlib.Core.Bool.{true, false, not}
use mathlib.Core.List.{List, [], ◌∷◌, ◌++◌}
use lib.ListN.{length}
use lib.Seq.{length-sets}
use lib.Dec.{ltb, leb, eqb}
use borrow.Author.Tests.{ltb-true, lt-ltb, lt-leb, eq-eqb, ne_eqb, leb-false, eqb-true, not-false}
use Rattle.basis.specs.Reason.{Reason, ◌when◌, first}
use Rattle.basis.proofs.Pick.{test_case}
use Rattle.basis.proofs.Reasons.{NoneHolds, numbered, none_first, first_none, first_holds, first_here, first_skips, append_skips, append_first, append_second}
use Rattle.row.specs.Names.{HEADER, LENGTH, place}
use Rattle.row.proofs.Places.{header_below}
use Rattle.row.proofs.Rows.{take_stays}
use Rattle.table.specs.Verdict.{Verdict}
use Rattle.table.specs.Refusals.{rows, refuse, accepted, head_reasons}
use Rattle.term.specs.Bytes.{edited}
use Rattle.judge.specs.Verdict.{is_accepted}
use Rattle.judge.specs.Run.{LIMIT, room_reasons, limit_reasons}
use Rattle.judge.specs.Kept.{kept_part, kept_wrong}
use Rattle.judge.specs.Edit.{edit_reasons}
use Rattle.judge.proofs.Verdicts.{head_same}
use Rattle.judge.proofs.Granted.{EditReady, edit_ready, room_numbered}
use Rattle.judge.proofs.Right.{kept_goes, kept_stops}
use Rattle.simplify.specs.Answer.{answer}
use Rattle.simplify.specs.Edit.{edit_verdict, edit_answer, edit_table, edit_kept}
use Rattle.demands.proofs.Judged.{Judged, refused, granted, judged_case, only_granted, only_refused}
use Rattle.demands.proofs.Scanned.{FirstGiven, early, by_row, NoneGiven, given_stops, given_goes, given_or_not}
use Rattle.demands.proofs.RunRefusals.{given_last, row_never_19}
use Rattle.demands.proofs.Demand1.{edit_changes_no_table, edit_changes_no_result, edit_counts_nothing}

-- none of 1 to 8 holds
pub record NoneToEight (t kept : List ℕ) (r : ℕ) (new : List ℕ) : Type 0 where
  pub room : NoneHolds (room_reasons t kept)
  pub row : r < rows t
  pub long : length new ≡ LENGTH

module _ (t kept : List ℕ) (r : ℕ) (new : List ℕ) (limit : ℕ) where
  abbrev reasons : List Reason
  reasons = edit_reasons t kept r new limit

  abbrev e : List ℕ
  e = edited t r new

  -- a number is given, with a row
  pub data EditRefused : ℕ → ℕ → Type 0 where
    -- 1 to 8 and 19, then 9 to 15 and 18 of the edited table
    before : {number row : ℕ} → FirstGiven (edit_reasons t kept r new limit) (edited t r new) number row → EditRefused number row
    -- 16, where none of them holds: the kept result does not go with the edited table
    wrong_kept : NoneGiven (edit_reasons t kept r new limit) (edited t r new) → kept_wrong (edited t r new) (kept_part t kept) ≡ true → EditRefused 16 0

  -- none of all holds
  pub record EditPassed : Type 0 where
    pub before : NoneGiven (edit_reasons t kept r new limit) (edited t r new)
    pub right : kept_wrong (edited t r new) (kept_part t kept) ≡ false

  pub grant_edit : EditPassed → edit_verdict t kept r new limit ≡ accepted
  unfolding edit_verdict
  grant_edit p = given_goes reasons e p.before _ ∙ kept_goes e (kept_part t kept) accepted p.right

  pub refusal_edit : (number row : ℕ) → (number ≡ 0 → ⊥) → EditRefused number row → edit_verdict t kept r new limit ≡ refuse number row
  unfolding edit_verdict
  refusal_edit number row some (before h) = given_stops reasons e number row some h _
  refusal_edit number row some (wrong_kept g w) = given_goes reasons e g _ ∙ kept_stops e (kept_part t kept) accepted w

  -- every edit is refused or accepted
  all_numbered : numbered reasons ≡ true
  unfolding edit_reasons limit_reasons room_reasons head_reasons
  all_numbered = refl

  headed : first reasons ≡ 0 → first (head_reasons e) ≡ 0
  unfolding edited
  headed z =
      let ready : EditReady t kept r new limit = edit_ready t kept r new limit z in
      head_same e t (length-sets t (place r) new) (take_stays t r new ready.long HEADER (header_below r)) ∙ ready.roomy.head

  judged : Judged EditRefused EditPassed
  judged =
      judged_case (given_or_not reasons e all_numbered headed) (λ number row some h. refused number row some (before h))
      (λ g.
      test_case (kept_wrong e (kept_part t kept))
      (λ w. refused 16 0 (λ z. absurd (omega (arith, z))) (wrong_kept g w))
      (λ w. granted (record { before = g; right = w })))

  -- and the other way round
  pub edit_passed : is_accepted (edit_verdict t kept r new limit) ≡ true → EditPassed
  edit_passed = only_granted _ _ _ refusal_edit judged

  pub given_edit : (number row : ℕ) → (number ≡ 0 → ⊥) → edit_verdict t kept r new limit ≡ refuse number row → EditRefused number row
  given_edit = only_refused _ _ _ refusal_edit judged grant_edit

  -- ---- 19

  abbrev eight : List Reason
  eight = room_reasons t kept ++ 7 when leb (rows t) r ∷ 8 when not (eqb (length new) LENGTH) ∷ []

  pub edit_refused_limit : edit_verdict t kept r new limit ≡ refuse 19 0 → NoneToEight t kept r new × (LIMIT < limit)
  unfolding edit_reasons limit_reasons room_reasons head_reasons
  edit_refused_limit is = by (given_edit 19 0 (λ z. absurd (omega (arith, z))) is)
    where
      by : EditRefused 19 0 → NoneToEight t kept r new × (LIMIT < limit)
      by (before (early h)) =
          let last = given_last 19 eight (ltb LIMIT limit) refl h in
          let none : first eight ≡ 0 = none_first eight last.0 in
          let two =
          first_none (7 when leb (rows t) r ∷ 8 when not (eqb (length new) LENGTH) ∷ []) refl
          (append_second (room_reasons t kept) _ (room_numbered t kept) none) in (
            record {
              room = first_none (room_reasons t kept) (room_numbered t kept) (append_first (room_reasons t kept) _ none);
              row = leb-false (rows t) r two.0;
              long = eqb-true (length new) LENGTH (not-false (eqb (length new) LENGTH) two.1.0);
            },
            ltb-true LIMIT limit last.1,
          )
      by (before (by_row none h)) = absurd (row_never_19 e 0 h)

  module _ (none : NoneToEight t kept r new) (above : LIMIT < limit) where
    pub edit_limit_refused : edit_verdict t kept r new limit ≡ refuse 19 0
    unfolding edit_reasons limit_reasons
    edit_limit_refused =
        refusal_edit 19 0 (λ z. absurd (omega (arith, z)))
        (before (early (first_holds 19 reasons (λ z. absurd (omega (arith, z)))
        (append_skips (room_reasons t kept) _ (room_numbered t kept) (none_first (room_reasons t kept) none.room) ∙
        first_skips 7 (leb (rows t) r) _ (lt-leb (rows t) r none.row) ∙
        first_skips 8 (not (eqb (length new) LENGTH)) _ (ap not (eq-eqb (length new) LENGTH none.long)) ∙
        first_here 19 (ltb LIMIT limit) [] (lt-ltb LIMIT limit above)))))

    stopped : is_accepted (edit_verdict t kept r new limit) ≡ false
    unfolding is_accepted refuse
    stopped = rw edit_limit_refused (ne_eqb 19 0 (λ z. absurd (omega (arith, z))))

    pub edit_limit_changes_nothing : (edit_table t kept r new limit ≡ t) × (edit_kept t kept r new limit ≡ kept)
    edit_limit_changes_nothing = (edit_changes_no_table t kept r new limit stopped, edit_changes_no_result t kept r new limit stopped)

    pub edit_limit_answer : edit_answer t kept r new limit ≡ answer 19 0 0 0 0
    unfolding refuse
    edit_limit_answer = edit_counts_nothing t kept r new limit stopped ∙ ap (λ (v : Verdict). answer v.number v.row 0 0 0) edit_limit_refused
