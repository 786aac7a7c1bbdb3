-- The numbers of the faults, and what a function that judges tells by its result: a number alone, or a verdict.
use Rattle.std.specs.Prelude.{ℕ, Result, Ok, Err}
use Rattle.table.specs.declared.Fault.{Fault}
use Rattle.table.specs.declared.Fault.TheVariants.{TableTooShort, HeaderMark, Width, RowCount, TableLength, ResultTooShort, RowNumber, ReplacementLength, RowMark, Kind, UnusedField, Value, Reference, Sort, Bounds, KeptResult, NotARead, OtherBounds, LimitTooHigh, ListTooShort}
use Rattle.table.specs.declared.Refusal.{Refusal}
use Rattle.table.specs.Verdict.{Verdict}

abbrev pub number_of : Fault → ℕ
number_of TableTooShort = 1
number_of HeaderMark = 2
number_of Width = 3
number_of RowCount = 4
number_of TableLength = 5
number_of ResultTooShort = 6
number_of RowNumber = 7
number_of ReplacementLength = 8
number_of RowMark = 9
number_of Kind = 10
number_of UnusedField = 11
number_of Value = 12
number_of Reference = 13
number_of Sort = 14
number_of Bounds = 15
number_of KeptResult = 16
number_of NotARead = 17
number_of OtherBounds = 18
number_of LimitTooHigh = 19
number_of ListTooShort = 22

-- the refusal by a fault that is of no row
abbrev pub of_no_row : Fault → Refusal
of_no_row fault = record { fault = fault; row = 0 }

-- the number told, 0 for none
abbrev pub told : Result (Unit {0}) Fault → ℕ
told (Ok _) = 0
told (Err fault) = number_of fault

-- the verdict told
abbrev pub verdict_of : Result (Unit {0}) Refusal → Verdict
verdict_of (Ok _) = record { number = 0; row = 0 }
verdict_of (Err refusal) = record { number = number_of refusal.fault; row = refusal.row }
