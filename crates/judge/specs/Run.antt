-- What a fresh run is refused for: 1 to 6, which every call begins with, then 19, then 9 to 15 and 18 (document 01, "What is answered"; document 02, A2 and A8).
use Rattle.std.specs.Prelude.{ℕ, List, [], ◌∷◌, ◌++◌, length, ltb}
use Rattle.basis.specs.Reason.{Reason, ◌when◌, first}
use Rattle.table.specs.Verdict.{Verdict}
use Rattle.table.specs.Refusals.{head_reasons, given, check_rows, accepted}

-- 1 to 6
unfoldable pub room_reasons : List ℕ → List ℕ → List Reason
room_reasons t buffer = head_reasons t ++ 6 when ltb (length buffer) (length t) ∷ []

-- the greatest limit, which is also that of all tools that take none
abbrev pub LIMIT : ℕ
LIMIT = 1024

-- 19
unfoldable pub limit_reasons : ℕ → List Reason
limit_reasons limit = 19 when ltb LIMIT limit ∷ []

-- 1 to 6 and 19
unfoldable pub run_reasons : List ℕ → List ℕ → ℕ → List Reason
run_reasons t buffer limit = room_reasons t buffer ++ limit_reasons limit

unfoldable pub run_verdict : List ℕ → List ℕ → ℕ → Verdict
run_verdict t buffer limit = given (first (run_reasons t buffer limit)) 0 (check_rows t accepted)
