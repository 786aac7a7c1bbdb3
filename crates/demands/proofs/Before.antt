-- What a question and `why` are refused for before the last reasons of each: 1 to 6, then 7 where `beyond` holds, then 9 to 15 and 18 of the first
-- faulty row. Given exactly when; and what comes after is the verdict exactly where none of these holds.
use Prim.Native.Nat.{ℕ, ◌≤◌}
use mathlib.Core.Path.{◌≡◌, refl, ap, ◌∙◌}
use mathlib.Core.Bool.{Bool, true, false}
use mathlib.Core.List.{List, [], ◌∷◌, ◌++◌}
use lib.ListN.{length}
use lib.Dec.{ltb}
use borrow.Author.Tests.{le-ltb}
use Rattle.basis.specs.Reason.{Reason, ◌when◌, first}
use Rattle.basis.proofs.Reasons.{numbered, first_skips, first_none, append_skips, append_first, append_second}
use Rattle.table.specs.Verdict.{Verdict}
use Rattle.table.specs.Refusals.{head_reasons, refuse, accepted, given, check_rows, check_table}
use Rattle.judge.specs.Run.{room_reasons}
use Rattle.judge.proofs.Verdicts.{given_number, head_numbered}
use Rattle.judge.proofs.Granted.{Roomy, roomy, room_numbered}
use Rattle.demands.proofs.Judged.{Judged, refused, granted, judged_case}
use Rattle.demands.proofs.Scanned.{FirstGiven, given_stops, given_goes, given_or_not}

-- 1 to 7
abbrev pub number_reasons : List ℕ → List ℕ → Bool → List Reason
number_reasons t buffer beyond = room_reasons t buffer ++ 7 when beyond ∷ []

-- a number is given, with a row
abbrev pub Before : List ℕ → List ℕ → Bool → ℕ → ℕ → Type 0
Before t buffer beyond = FirstGiven (number_reasons t buffer beyond) t

-- none of them holds
pub record Passed (t buffer : List ℕ) (beyond : Bool) : Type 0 where
  pub table : check_table t ≡ accepted
  pub room : length t ≤ length buffer
  pub within : beyond ≡ false

module _ (t buffer : List ℕ) (beyond : Bool) where
  abbrev reasons : List Reason
  reasons = number_reasons t buffer beyond

  -- a number of them is given, whatever comes after
  pub stops : (number row : ℕ) → (number ≡ 0 → ⊥) → Before t buffer beyond number row → (after : Verdict) →
      given (first (number_reasons t buffer beyond)) 0 (check_rows t after) ≡ refuse number row
  stops = given_stops reasons t

  -- none of them is given: what comes after is
  pub passes : Passed t buffer beyond → (after : Verdict) → given (first (number_reasons t buffer beyond)) 0 (check_rows t after) ≡ after
  unfolding room_reasons check_table accepted refuse first
  passes p =
      given_goes reasons t
      (record {
        table = p.table;
        numbers =
            append_skips (room_reasons t buffer) _ (room_numbered t buffer)
            (append_skips (head_reasons t) _ (head_numbered t) (given_number _ 0 (check_rows t accepted) (ap (λ (v : Verdict). v.number) p.table)) ∙
            first_skips 6 (ltb (length buffer) (length t)) [] (le-ltb (length buffer) (length t) p.room)) ∙
            first_skips 7 beyond [] p.within;
      })

  all_numbered : numbered reasons ≡ true
  unfolding room_reasons head_reasons
  all_numbered = refl

  ready : first reasons ≡ 0 → Roomy t buffer
  ready zero_first = roomy t buffer (append_first (room_reasons t buffer) _ zero_first)

  -- one of them holds, or none
  pub begun : Judged (Before t buffer beyond) (Passed t buffer beyond)
  begun =
      judged_case (given_or_not reasons t all_numbered (λ z. (ready z).head)) (λ number row some h. refused number row some h)
      (λ p.
      granted (record {
        table = p.table;
        room = (ready p.numbers).room;
        within = (first_none (7 when beyond ∷ []) refl (append_second (room_reasons t buffer) _ (room_numbered t buffer) p.numbers)).0;
      }))
