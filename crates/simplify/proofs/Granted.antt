-- What an accepted edit has: the reasons, one by one, do not hold.
use Prim.Native.Nat.{ℕ}
use mathlib.Core.Path.{◌≡◌, refl, ◌∙◌}
use mathlib.Core.Bool.{true, false}
use mathlib.Core.List.{List, [], ◌∷◌}
use Rattle.basis.specs.Reason.{◌when◌, first}
use Rattle.basis.proofs.Reasons.{first_none}
use Rattle.table.specs.Verdict.{Verdict}
use Rattle.table.specs.Refusals.{accepted, given, check_rows}
use Rattle.table.proofs.Faulty.{given_passes}
use Rattle.term.specs.Bytes.{edited}
use Rattle.judge.specs.Verdict.{is_accepted}
use Rattle.judge.specs.Kept.{kept_part, kept_wrong, kept_verdict}
use Rattle.judge.specs.Edit.{edit_reasons}
use Rattle.judge.proofs.Verdicts.{is_accepted_lem, given_number, given_after, rows_pass, rows_after}
use Rattle.judge.proofs.Granted.{EditReady, edit_ready}
use Rattle.simplify.specs.Edit.{edit_verdict}

pub record EditGranted (t kept : List ℕ) (r : ℕ) (x : List ℕ) (limit : ℕ) : Type 0 where
  pub verdict : edit_verdict t kept r x limit ≡ accepted
  pub ready : EditReady t kept r x limit
  pub rows_pass : check_rows (edited t r x) accepted ≡ accepted
  pub kept_right : kept_wrong (edited t r x) (kept_part t kept) ≡ false

pub edit_granted : (t kept : List ℕ) (r : ℕ) (x : List ℕ) (limit : ℕ) → is_accepted (edit_verdict t kept r x limit) ≡ true → EditGranted t kept r x limit
unfolding edit_verdict kept_verdict
edit_granted t kept r x limit e =
    let last : Verdict = given (first (16 when kept_wrong (edited t r x) (kept_part t kept) ∷ [])) 0 accepted in
    let z : (given (first (edit_reasons t kept r x limit)) 0 (check_rows (edited t r x) last)).number ≡ 0 = is_accepted_lem _ e in
    let zero_first : first (edit_reasons t kept r x limit) ≡ 0 = given_number _ 0 _ z in
    let scanned : (check_rows (edited t r x) last).number ≡ 0 = given_after _ 0 _ z in
    record {
      verdict =
          given_passes _ 0 (check_rows (edited t r x) last) zero_first ∙ rows_pass (edited t r x) last last scanned ∙
          given_passes _ 0 accepted (given_number _ 0 accepted (rows_after (edited t r x) last scanned));
      ready = edit_ready t kept r x limit zero_first;
      rows_pass = rows_pass (edited t r x) last accepted scanned;
      kept_right = (first_none (16 when kept_wrong (edited t r x) (kept_part t kept) ∷ []) refl (given_number _ 0 accepted (rows_after (edited t r x) last scanned))).0;
    }
