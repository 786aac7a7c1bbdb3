-- What is told by a result fixes it: no fault has the number 0, and two faults have two numbers.
use Prim.Native.Nat.{ℕ}
use native.Mathlib.Omega.{arith}
use mathlib.Core.Path.{◌≡◌, refl, sym, ap, ap₂, ◌∙◌}
use Rattle.std.proofs.Common.{Result, Ok, Err, List, [], ◌∷◌, get_or}
use Rattle.std.specs.Result.{IsErrAnd}
use Rattle.table.specs.declared.Fault.{Fault}
use Rattle.table.specs.declared.Fault.TheVariants.{TableTooShort, HeaderMark, Width, RowCount, TableLength, ResultTooShort, RowNumber, ReplacementLength, RowMark, Kind, UnusedField, Value, Reference, Sort, Bounds, KeptResult, NotARead, OtherBounds, LimitTooHigh, ListTooShort}
use Rattle.table.specs.declared.Refusal.{Refusal}
use Rattle.table.specs.Verdict.{Verdict}
use Rattle.table.specs.Fault.{number_of, told, verdict_of}

pub fault_some : (fault : Fault) → number_of fault ≡ 0 → ⊥
fault_some TableTooShort e = omega arith
fault_some HeaderMark e = omega arith
fault_some Width e = omega arith
fault_some RowCount e = omega arith
fault_some TableLength e = omega arith
fault_some ResultTooShort e = omega arith
fault_some RowNumber e = omega arith
fault_some ReplacementLength e = omega arith
fault_some RowMark e = omega arith
fault_some Kind e = omega arith
fault_some UnusedField e = omega arith
fault_some Value e = omega arith
fault_some Reference e = omega arith
fault_some Sort e = omega arith
fault_some Bounds e = omega arith
fault_some KeptResult e = omega arith
fault_some NotARead e = omega arith
fault_some OtherBounds e = omega arith
fault_some LimitTooHigh e = omega arith
fault_some ListTooShort e = omega arith

-- the faults by their numbers; what has no number is filled up
faults : List Fault
faults =
    TableTooShort ∷ TableTooShort ∷ HeaderMark ∷ Width ∷ RowCount ∷ TableLength ∷ ResultTooShort ∷ RowNumber ∷ ReplacementLength ∷ RowMark ∷ Kind ∷ UnusedField ∷ Value ∷
    Reference ∷ Sort ∷ Bounds ∷ KeptResult ∷ NotARead ∷ OtherBounds ∷ LimitTooHigh ∷ ListTooShort ∷ ListTooShort ∷ ListTooShort ∷ []

numbered : (fault : Fault) → get_or faults (number_of fault) TableTooShort ≡ fault
unfolding faults
numbered TableTooShort = refl
numbered HeaderMark = refl
numbered Width = refl
numbered RowCount = refl
numbered TableLength = refl
numbered ResultTooShort = refl
numbered RowNumber = refl
numbered ReplacementLength = refl
numbered RowMark = refl
numbered Kind = refl
numbered UnusedField = refl
numbered Value = refl
numbered Reference = refl
numbered Sort = refl
numbered Bounds = refl
numbered KeptResult = refl
numbered NotARead = refl
numbered OtherBounds = refl
numbered LimitTooHigh = refl
numbered ListTooShort = refl

pub fault_fixed : (a b : Fault) → number_of a ≡ number_of b → a ≡ b
fault_fixed a b e = sym (numbered a) ∙ ap (λ (n : ℕ). get_or faults n TableTooShort) e ∙ numbered b

pub told_fixed : (a b : Result (Unit {0}) Fault) → told a ≡ told b → a ≡ b
told_fixed (Ok _) (Ok _) e = refl
told_fixed (Ok _) (Err b) e = absurd (fault_some b (sym e))
told_fixed (Err a) (Ok _) e = absurd (fault_some a e)
told_fixed (Err a) (Err b) e = ap (λ (fault : Fault). Err fault) (fault_fixed a b e)

pub verdict_fixed : (a b : Result (Unit {0}) Refusal) → verdict_of a ≡ verdict_of b → a ≡ b
verdict_fixed (Ok _) (Ok _) e = refl
verdict_fixed (Ok _) (Err b) e = absurd (fault_some b.fault (sym (ap (λ (v : Verdict). v.number) e)))
verdict_fixed (Err a) (Ok _) e = absurd (fault_some a.fault (ap (λ (v : Verdict). v.number) e))
verdict_fixed (Err a) (Err b) e =
    ap₂ (λ (fault : Fault) (row : ℕ). Err (record { fault = fault; row = row }))
    (fault_fixed a.fault b.fault (ap (λ (v : Verdict). v.number) e)) (ap (λ (v : Verdict). v.row) e)

-- ---- what a `?` hands on

pub told_on : (r : Result (Unit {0}) Fault) (fault : Fault) {n : ℕ} → IsErrAnd r (λ e. e ≡ fault) → number_of fault ≡ n → told r ≡ n
told_on (Ok _) fault h e = absurd h
told_on (Err x) fault h e = ap (λ (f : Fault). number_of f) h ∙ e

pub verdict_on : (r : Result (Unit {0}) Refusal) (refusal : Refusal) {v : Verdict} → IsErrAnd r (λ e. e ≡ refusal) → verdict_of (Err refusal) ≡ v → verdict_of r ≡ v
verdict_on (Ok _) refusal h e = absurd h
verdict_on (Err x) refusal h e = ap (λ (f : Refusal). verdict_of (Err f)) h ∙ e
