-- What an accepted verdict tells: no reason held, and what came after is accepted too.
use Prim.Native.Nat.{ℕ, zero, suc}
use mathlib.Core.Path.{◌≡◌, refl, ap, sym, ◌∙◌}
use mathlib.Core.Bool.{Bool, true, false, cond}
use mathlib.Core.List.{List}
use lib.Dec.{eqb}
use borrow.Author.Tests.{eqb-true, eq-eqb}
use lib.ListN.{length, take}
use Rattle.basis.specs.Reason.{first}
use Rattle.basis.proofs.Pick.{test_case}
use Rattle.basis.proofs.Reasons.{numbered}
use Rattle.row.specs.Names.{HEADER}
use Rattle.table.specs.Verdict.{Verdict}
use Rattle.table.specs.Refusals.{rows, refuse, accepted, given, first_faulty, check_rows, check_table, row_fault, head_reasons}
use Rattle.table.proofs.Faulty.{given_passes}
use Rattle.term.proofs.Acceptable.{same_width, same_rows, same_head}
use Rattle.judge.specs.Verdict.{is_accepted}

pub is_accepted_lem : (v : Verdict) → is_accepted v ≡ true → v.number ≡ 0
unfolding is_accepted
is_accepted_lem v e = eqb-true v.number 0 e

pub accepted_is : (v : Verdict) → v.number ≡ 0 → is_accepted v ≡ true
unfolding is_accepted
accepted_is v e = eq-eqb v.number 0 e

pub given_number : (n r : ℕ) (after : Verdict) → (given n r after).number ≡ 0 → n ≡ 0
unfolding given refuse
given_number n r after e =
    test_case (eqb n 0) (λ (t : eqb n 0 ≡ true). eqb-true n 0 t)
    (λ (t : eqb n 0 ≡ false). sym (ap (λ (b : Bool). (cond b after (refuse n r)).number) t) ∙ e)

pub given_after : (n r : ℕ) (after : Verdict) → (given n r after).number ≡ 0 → after.number ≡ 0
given_after n r after e = sym (ap (λ (v : Verdict). v.number) (given_passes n r after (given_number n r after e))) ∙ e

-- rows that pass lead on to what comes after, whatever that is
pub scan_passes : (fault : ℕ → ℕ) (left r : ℕ) (after after' : Verdict) → (first_faulty fault left r after).number ≡ 0 → first_faulty fault left r after' ≡ after'
unfolding first_faulty
scan_passes fault zero r after after' e = refl
scan_passes fault (suc left) r after after' e =
    given_passes (fault r) r _ (given_number (fault r) r _ e) ∙ scan_passes fault left (suc r) after after' (given_after (fault r) r _ e)

pub rows_pass : (t : List ℕ) (after after' : Verdict) → (check_rows t after).number ≡ 0 → check_rows t after' ≡ after'
unfolding check_rows
rows_pass t after after' e = scan_passes (row_fault t) (rows t) 0 after after' e

pub rows_after : (t : List ℕ) (after : Verdict) → (check_rows t after).number ≡ 0 → after.number ≡ 0
rows_after t after e = sym (ap (λ (v : Verdict). v.number) (rows_pass t after after e)) ∙ e

-- head and rows pass: the table is accepted
pub table_passes : (t : List ℕ) (after : Verdict) → first (head_reasons t) ≡ 0 → (check_rows t after).number ≡ 0 → check_table t ≡ accepted
unfolding check_table
table_passes t after h e = given_passes _ 0 _ h ∙ rows_pass t after accepted e

pub head_numbered : (t : List ℕ) → numbered (head_reasons t) ≡ true
unfolding head_reasons
head_numbered t = refl

-- a table's accepted verdict is the one verdict that says so
pub accepted_only : (t : List ℕ) → is_accepted (check_table t) ≡ true → check_table t ≡ accepted
unfolding check_table
accepted_only t e =
    let z : (given (first (head_reasons t)) 0 (check_rows t accepted)).number ≡ 0 = is_accepted_lem _ e in
    given_passes _ 0 (check_rows t accepted) (given_number _ 0 (check_rows t accepted) z) ∙ rows_pass t accepted accepted (given_after _ 0 (check_rows t accepted) z)

-- the head of a table is judged by its length and its six bytes
pub head_same : (s t : List ℕ) → length s ≡ length t → take HEADER s ≡ take HEADER t → first (head_reasons s) ≡ first (head_reasons t)
unfolding head_reasons
head_same s t long same = rw (long, same_head s t same, same_width s t same, same_rows s t same)
