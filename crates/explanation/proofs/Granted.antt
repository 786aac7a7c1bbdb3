-- A question that passes 1 to 17: the space decides alone, and what is answered and left either way.
use Prim.Native.Nat.{ℕ, ◌≤◌, ◌<◌}
use native.Mathlib.Nat.{le_refl}
use mathlib.Core.Path.{◌≡◌, ap, sym, ◌∙◌}
use mathlib.Core.Bool.{not}
use mathlib.Core.List.{List, []}
use lib.ListN.{length}
use lib.Seq.{sets}
use lib.Dec.{ltb, leb}
use borrow.Author.Tests.{lt-ltb, le-ltb, lt-leb}
use Rattle.basis.specs.Reason.{first}
use Rattle.basis.proofs.Reasons.{append_skips, append_first, first_here, first_skips}
use Rattle.table.specs.Verdict.{Verdict}
use Rattle.table.specs.Refusals.{rows, refuse, accepted, given, check_rows, check_table}
use Rattle.table.proofs.Faulty.{given_passes}
use Rattle.term.specs.Term.{is_read}
use Rattle.term.specs.Bytes.{look}
use Rattle.judge.specs.Verdict.{is_accepted}
use Rattle.judge.specs.Run.{LIMIT, room_reasons, run_reasons, run_verdict}
use Rattle.judge.proofs.Verdicts.{is_accepted_lem, given_number, given_after, rows_pass}
use Rattle.judge.proofs.Granted.{room_numbered, grant_run}
use Rattle.simplify.specs.Answer.{answer, if_accepted, answered}
use Rattle.simplify.specs.Run.{fresh_bytes, fresh_removed}
use Rattle.explanation.specs.declared.Listing.{Listing}
use Rattle.explanation.specs.Why.{list_of, row_reasons, read_reasons, space_reasons, why_verdict, is_measured}
use Rattle.explanation.specs.Why.{listing, why_answer, why_result, why_list, Explained}
use Rattle.explanation.specs.Ready.{Explainable}

module _ {t buffer : List ℕ} {x : ℕ} (can : Explainable t buffer x) where
  -- 1 to 7, then 9 to 15 and 18, then 17 do not hold
  row_passes : first (row_reasons t buffer x) ≡ 0
  unfolding row_reasons run_reasons run_verdict first
  row_passes =
      append_skips (room_reasons t buffer) _ (room_numbered t buffer)
      (append_first (room_reasons t buffer) _ (given_number _ 0 (check_rows t accepted) (is_accepted_lem _ (grant_run t buffer LIMIT can.table can.room (le_refl LIMIT))))) ∙
      first_skips 7 (leb (rows t) x) [] (lt-leb (rows t) x can.row)

  rows_pass_all : (check_rows t accepted).number ≡ 0
  unfolding check_table accepted refuse
  rows_pass_all = given_after _ 0 (check_rows t accepted) (ap (λ (v : Verdict). v.number) can.table)

  read_passes : first (read_reasons t x) ≡ 0
  unfolding read_reasons first
  read_passes = first_skips 17 (not (is_read (look t x))) [] (ap not can.reads)

  -- what is left is 22
  space_decides : (space : List ℕ) → why_verdict t buffer x space ≡ given (first (space_reasons t x space)) 0 accepted
  unfolding why_verdict
  space_decides space =
      let last : Verdict = given (first (space_reasons t x space)) 0 accepted in
      given_passes _ 0 (check_rows t (given (first (read_reasons t x)) x last)) row_passes ∙
      rows_pass t accepted (given (first (read_reasons t x)) x last) rows_pass_all ∙
      given_passes _ x last read_passes

  module _ (space : List ℕ) where
    pub verdict_fits : length (list_of t x) ≤ length space → why_verdict t buffer x space ≡ accepted
    unfolding space_reasons first
    verdict_fits l =
        space_decides space ∙
        given_passes _ 0 accepted (first_skips 22 (ltb (length space) (length (list_of t x))) [] (le-ltb (length space) (length (list_of t x)) l))

    pub verdict_short : length space < length (list_of t x) → why_verdict t buffer x space ≡ refuse 22 0
    unfolding space_reasons given
    verdict_short l = space_decides space ∙ rw (first_here 22 _ [] (lt-ltb (length space) (length (list_of t x)) l))

    pub explained_short : {a : Listing} → length space < length (list_of t x) → a ≡ listing 22 0 0 0 (length (list_of t x)) →
        Explained t buffer x space a buffer space
    unfolding why_answer why_result why_list is_measured listing answered if_accepted is_accepted refuse
    explained_short l is =
        let no : why_verdict t buffer x space ≡ refuse 22 0 = verdict_short l in
        record { answer_is = is ∙ sym (rw no); result_is = sym (rw no); list_is = sym (rw no) }

    pub explained_fits : length (list_of t x) ≤ length space →
        Explained t buffer x space
        (record {
          answer = record { refusal = 0; row = 0; removed = fresh_removed LIMIT t; touched = rows t; compared = 0 };
          length = length (list_of t x);
        })
        (fresh_bytes LIMIT t buffer) (sets space 0 (list_of t x))
    unfolding why_answer why_result why_list is_measured answer answered if_accepted is_accepted accepted refuse
    explained_fits l =
        let yes : why_verdict t buffer x space ≡ accepted = verdict_fits l in
        record { answer_is = sym (rw yes); result_is = sym (rw yes); list_is = sym (rw yes) }
