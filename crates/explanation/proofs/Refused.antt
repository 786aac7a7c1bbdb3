-- A question that is refused before its list is made, and what a question has that is not.
use Prim.Native.Nat.{ℕ, zero, suc, ◌<◌}
use native.Mathlib.Omega.{arith}
use mathlib.Core.Path.{◌≡◌, refl, ap, sym, ◌∙◌}
use mathlib.Core.Bool.{Bool, true, false, not, ◌&&◌}
use mathlib.Core.List.{List, [], ◌∷◌}
use lib.Dec.{ltb, leb, eqb}
use borrow.Author.Tests.{ltb-true, leb-false, eqb-true, eqb-false, ne_eqb, not-false}
use Rattle.basis.specs.Reason.{Reason, ◌when◌, first}
use Rattle.basis.proofs.Pick.{test_case, pick_case, and_left, and_right}
use Rattle.basis.proofs.Reasons.{first_none, append_first, append_second}
use Rattle.table.specs.Verdict.{Verdict}
use Rattle.table.specs.Refusals.{rows, head_reasons, row_reasons as rowFaults, row_fault, refuse, accepted, given, first_faulty, check_rows}
use Rattle.table.proofs.Faulty.{given_passes, given_refuses}
use Rattle.term.specs.Term.{is_read}
use Rattle.term.specs.Bytes.{look}
use Rattle.judge.specs.Verdict.{is_accepted}
use Rattle.judge.specs.Run.{room_reasons}
use Rattle.judge.proofs.Verdicts.{given_number, rows_after, table_passes}
use Rattle.judge.proofs.Granted.{Roomy, roomy, room_numbered}
use Rattle.judge.proofs.Judged.{rows_refused}
use Rattle.simplify.specs.declared.Answer.{Answer}
use Rattle.simplify.specs.Answer.{answer, if_accepted, answered}
use Rattle.explanation.specs.declared.Listing.{Listing}
use Rattle.explanation.specs.Why.{row_reasons, read_reasons, space_reasons, why_verdict, is_measured}
use Rattle.explanation.specs.Why.{listing, why_answer, why_result, why_list, Explained}
use Rattle.explanation.specs.Ready.{Explainable, There}

-- ---- 22 is none of the numbers that come before it

abbrev lower : ℕ → List Reason → Bool
lower m [] = true
lower m ((n when t) ∷ later) = ltb n m && lower m later

first_lower : (m : ℕ) (rs : List Reason) → 0 < m → lower m rs ≡ true → first rs < m
unfolding first
first_lower m [] some e = some
first_lower m ((n when true) ∷ later) some e = ltb-true n m (and_left (ltb n m) (lower m later) e)
first_lower m ((n when false) ∷ later) some e = first_lower m later some (and_right (ltb n m) (lower m later) e)

given_lower : (m n r : ℕ) (after : Verdict) → n < m → after.number < m → (given n r after).number < m
unfolding given refuse
given_lower m n r after l k = pick_case (λ (v : Verdict). v.number < m) (eqb n 0) (λ e. k) (λ e. l)

scan_lower : (m : ℕ) (fault : ℕ → ℕ) (left r : ℕ) (after : Verdict) → ((q : ℕ) → fault q < m) → after.number < m
    → (first_faulty fault left r after).number < m
unfolding first_faulty
scan_lower m fault zero r after l k = k
scan_lower m fault (suc left) r after l k = given_lower m (fault r) r _ (l r) (scan_lower m fault left (suc r) after l k)

row_lower : (t buffer : List ℕ) (x : ℕ) → first (row_reasons t buffer x) < 22
unfolding row_reasons room_reasons head_reasons
row_lower t buffer x = first_lower 22 (row_reasons t buffer x) (omega arith) refl

fault_lower : (t : List ℕ) (q : ℕ) → row_fault t q < 22
unfolding row_fault rowFaults
fault_lower t q = first_lower 22 _ (omega arith) refl

read_lower : (t : List ℕ) (x : ℕ) → (check_rows t (given (first (read_reasons t x)) x accepted)).number < 22
unfolding check_rows read_reasons accepted refuse
read_lower t x =
    scan_lower 22 (row_fault t) (rows t) 0 _ (fault_lower t)
    (given_lower 22 _ x accepted (first_lower 22 (read_reasons t x) (omega arith) refl) (omega arith))

-- ---- the refusals

module _ (t buffer : List ℕ) (x : ℕ) (space : List ℕ) where
  refused_by : {v : Verdict} {a : Listing} → why_verdict t buffer x space ≡ v → (v.number ≡ 0 → ⊥) → v.number < 22 →
      a ≡ listing v.number v.row 0 0 0 → Explained t buffer x space a buffer space
  unfolding why_answer why_result why_list is_measured listing answered if_accepted is_accepted
  refused_by {v} e h l is =
      let no : eqb v.number 0 ≡ false = ne_eqb _ 0 h in
      let other : eqb v.number 22 ≡ false = ne_eqb _ 22 (λ (q : v.number ≡ 22). omega arith) in
      record { answer_is = is ∙ sym (rw (e, no, other)); result_is = sym (rw (e, no)); list_is = sym (rw (e, no)) }

  module _ {number : ℕ} (told : number ≡ first (row_reasons t buffer x)) where
    pub row_refused : {a : Listing} → (number ≡ 0 → ⊥) → a ≡ listing number 0 0 0 0 → Explained t buffer x space a buffer space
    unfolding why_verdict refuse
    row_refused h is =
        refused_by (given_refuses _ 0 _ (λ z. h (told ∙ z))) (λ z. h (told ∙ z)) (row_lower t buffer x) (is ∙ ap (λ (n : ℕ). listing n 0 0 0 0) told)

    module _ (z : number ≡ 0) {v : Verdict} (judged : v ≡ check_rows t (given (first (read_reasons t x)) x accepted)) where
      -- a refusal before 22 is the same whatever comes after
      verdict_is : (v.number ≡ 0 → ⊥) → why_verdict t buffer x space ≡ v
      unfolding why_verdict
      verdict_is h =
          let last : Verdict = given (first (space_reasons t x space)) 0 accepted in
          let n : ℕ = first (read_reasons t x) in
          given_passes _ 0 (check_rows t (given n x last)) (sym told ∙ z) ∙
          test_case (eqb n 0)
          (λ (e : eqb n 0 ≡ true).
          sym (rows_refused t (judged ∙ ap (check_rows t) (given_passes n x accepted (eqb-true n 0 e))) (given n x last) h))
          (λ (e : eqb n 0 ≡ false).
          ap (check_rows t) (given_refuses n x last (eqb-false n 0 e) ∙ sym (given_refuses n x accepted (eqb-false n 0 e))) ∙ sym judged)

      pub read_refused : {a : Listing} → (v.number ≡ 0 → ⊥) → a ≡ listing v.number v.row 0 0 0 → Explained t buffer x space a buffer space
      read_refused h is = refused_by (verdict_is h) h (rw judged (read_lower t x)) is

-- ---- what is there when no reason holds

module _ (t buffer : List ℕ) (x : ℕ) {number : ℕ} (told : number ≡ first (row_reasons t buffer x)) (z : number ≡ 0) where
  room_there : Roomy t buffer
  unfolding row_reasons
  room_there = roomy t buffer (append_first (room_reasons t buffer) _ (sym told ∙ z))

  pub row_there : There t x
  unfolding row_reasons
  row_there =
      record {
        head = room_there.head;
        row =
            leb-false (rows t) x
            (first_none (7 when leb (rows t) x ∷ []) refl (append_second (room_reasons t buffer) _ (room_numbered t buffer) (sym told ∙ z))).0;
      }

  pub read_there : {v : Verdict} → v ≡ check_rows t (given (first (read_reasons t x)) x accepted) → v.number ≡ 0 → Explainable t buffer x
  unfolding read_reasons
  read_there judged e =
      let last : Verdict = given (first (read_reasons t x)) x accepted in
      let fine : (check_rows t last).number ≡ 0 = ap (λ (u : Verdict). u.number) (sym judged) ∙ e in
      record {
        table = table_passes t last room_there.head fine;
        room = room_there.room;
        row = row_there.row;
        reads =
            not-false (is_read (look t x))
            (first_none (17 when not (is_read (look t x)) ∷ []) refl (given_number _ x accepted (rows_after t last fine))).0;
      }

-- a refusal's answer
pub listing_is : (number row length : ℕ) {a : Answer} → a ≡ answer number row 0 0 0
    → ◌≡◌ {A = Listing} (record { answer = a; length = length }) (listing number row 0 0 length)
unfolding listing
listing_is number row length e = λ i. record { answer = e i; length = length }
