-- "Given exactly when", of any verdict: where it refuses in each of some ways, each with its number and row, and accepts in one, and one of all these
-- holds, it refuses and accepts in no other.
use Prim.Native.Nat.{ℕ}
use mathlib.Core.Path.{◌≡◌, sym, ap, subst₂, ◌∙◌}
use mathlib.Core.Bool.{true}
use Rattle.table.specs.Verdict.{Verdict}
use Rattle.table.specs.Refusals.{refuse, accepted}
use Rattle.table.proofs.Faulty.{refuse_number, refuse_row}
use Rattle.judge.specs.Verdict.{is_accepted}
use Rattle.judge.proofs.Verdicts.{is_accepted_lem}

-- one of the ways to be refused holds, or the way to be accepted
pub data Judged (Refused : ℕ → ℕ → Type 0) (Granted : Type 0) : Type 0 where
  refused : (number row : ℕ) → (number ≡ 0 → ⊥) → Refused number row → Judged Refused Granted
  granted : Granted → Judged Refused Granted

pub judged_case {κ} : {Refused : ℕ → ℕ → Type 0} {Granted : Type 0} {C : Type κ} → Judged Refused Granted →
    ((number row : ℕ) → (number ≡ 0 → ⊥) → Refused number row → C) → (Granted → C) → C
judged_case (refused number row some h) p q = p number row some h
judged_case (granted g) p q = q g

module _ (Refused : ℕ → ℕ → Type 0) (Granted : Type 0) (v : Verdict)
    (refusal : (number row : ℕ) → (number ≡ 0 → ⊥) → Refused number row → v ≡ refuse number row) where
  pub only_granted : Judged Refused Granted → is_accepted v ≡ true → Granted
  unfolding refuse
  only_granted (refused k s some h) e = absurd (some (ap (λ (u : Verdict). u.number) (sym (refusal k s some h)) ∙ is_accepted_lem v e))
  only_granted (granted g) e = g

  pub only_refused : Judged Refused Granted → (Granted → v ≡ accepted) → (number row : ℕ) → (number ≡ 0 → ⊥) → v ≡ refuse number row → Refused number row
  unfolding accepted
  only_refused (refused k s held h) grant number row some e =
      let same : refuse k s ≡ refuse number row = sym (refusal k s held h) ∙ e in
      subst₂ Refused (refuse_number k number s row same) (refuse_row k number s row same) h
  only_refused (granted g) grant number row some e = absurd (some (sym (refuse_number 0 number 0 row (sym (grant g) ∙ e))))
