-- 16: what a kept result is refused for, beside the table as it stands (document 01, "What is answered" and "Edit"; document 02, A6).
use Rattle.std.specs.Prelude.{ℕ, Bool, not, ◌||◌, List, [], ◌∷◌, take, eqb}
use Rattle.std.specs.Bool.{beq}
use Rattle.basis.specs.Reason.{◌when◌, first}
use Rattle.basis.specs.Count.{any_below}
use Rattle.row.specs.Names.{HEADER, place}
use Rattle.in_bytes.specs.Numbers.{byte}
use Rattle.table.specs.Verdict.{Verdict}
use Rattle.table.specs.Refusals.{rows, given, check_table}
use Rattle.term.specs.Term.{is_array}
use Rattle.term.specs.Bytes.{look}
use Rattle.judge.specs.Verdict.{is_accepted}

-- the part of a kept result that is judged and used: as many of its first bytes as the table has
unfoldable pub kept_part : List ℕ → List ℕ → List ℕ
kept_part t kept = take (place (rows t)) kept

-- the two headers differ
unfoldable pub other_header : List ℕ → List ℕ → Bool
other_header t kept = any_below (λ i. not (eqb (byte kept i) (byte t i))) HEADER

-- some row is an array in one and a word in the other
unfoldable pub other_sorts : List ℕ → List ℕ → Bool
other_sorts t kept = any_below (λ x. not (beq (is_array (look kept x)) (is_array (look t x)))) (rows t)

-- 16, for the table t as it stands and the part of the kept result
unfoldable pub kept_wrong : List ℕ → List ℕ → Bool
kept_wrong t kept = not (is_accepted (check_table kept)) || other_header t kept || other_sorts t kept

-- then what comes after
unfoldable pub kept_verdict : List ℕ → List ℕ → Verdict → Verdict
kept_verdict t kept after = given (first (16 when kept_wrong t kept ∷ [])) 0 after
