-- Why a read moved: document 02, A1.
use Rattle.std.specs.Prelude.{ℕ, ◌≡◌, Bool, cond, not, ◌||◌, List, [], ◌∷◌, ◌++◌, length, eqb, leb, ltb}
use Rattle.std.proofs.lemmas.List.Edits.{sets}
use Rattle.basis.specs.Reason.{Reason, ◌when◌, first}
use Rattle.row.specs.Bytes.{source_at}
use Rattle.table.specs.Verdict.{Verdict}
use Rattle.table.specs.Refusals.{rows, given, check_rows, accepted}
use Rattle.term.specs.Term.{row_of, is_read}
use Rattle.term.specs.Relation.{range_of}
use Rattle.term.specs.Bytes.{look}
use Rattle.judge.specs.Verdict.{is_accepted}
use Rattle.judge.specs.Run.{LIMIT, room_reasons}
use Rattle.simplify.specs.Answer.{modulus, answer, answered}
use Rattle.simplify.specs.Run.{fresh_rows, fresh_bytes, fresh_removed}
use Rattle.explanation.specs.declared.Listing.{Listing}
use Rattle.listing.specs.List.{list_for}

-- the list of row x of a table: the walk over its fresh result, with the instructions of the table's rows
unfoldable pub list_of : List ℕ → ℕ → List ℕ
list_of t x = list_for (modulus t) LIMIT (fresh_rows LIMIT t) (range_of (modulus t) (fresh_rows LIMIT t)) (source_at t) x (row_of (fresh_rows LIMIT t x)) (look t x)

-- 1 to 7
unfoldable pub row_reasons : List ℕ → List ℕ → ℕ → List Reason
row_reasons t buffer x = room_reasons t buffer ++ 7 when leb (rows t) x ∷ []

-- 17 for a number that names a row that is not a READ
unfoldable pub read_reasons : List ℕ → ℕ → List Reason
read_reasons t x = 17 when not (is_read (look t x)) ∷ []

-- 22 for a space that is shorter than the list
unfoldable pub space_reasons : List ℕ → ℕ → List ℕ → List Reason
space_reasons t x space = 22 when ltb (length space) (length (list_of t x)) ∷ []

-- 1 to 7; then 9 to 15 and 18; then 17; then 22
unfoldable pub why_verdict : List ℕ → List ℕ → ℕ → List ℕ → Verdict
why_verdict t buffer x space =
    given (first (row_reasons t buffer x)) 0
    (check_rows t
    (given (first (read_reasons t x)) x
    (given (first (space_reasons t x space)) 0 accepted)))

-- the list's length is told also where the space is too short for it
unfoldable pub is_measured : Verdict → Bool
is_measured v = is_accepted v || eqb v.number 22

unfoldable pub listing : ℕ → ℕ → ℕ → ℕ → ℕ → Listing
listing refusal row removed touched long = record { answer = answer refusal row removed touched 0; length = long }

-- the numbers of a fresh run, in which no comparison is counted, and the list's length
unfoldable pub why_answer : List ℕ → List ℕ → ℕ → List ℕ → Listing
why_answer t buffer x space = record {
  answer = answered (why_verdict t buffer x space) (fresh_removed LIMIT t) (rows t) 0;
  length = cond (is_measured (why_verdict t buffer x space)) (length (list_of t x)) 0;
}

unfoldable pub why_result : List ℕ → List ℕ → ℕ → List ℕ → List ℕ
why_result t buffer x space = cond (is_accepted (why_verdict t buffer x space)) (fresh_bytes LIMIT t buffer) buffer

unfoldable pub why_list : List ℕ → List ℕ → ℕ → List ℕ → List ℕ
why_list t buffer x space = cond (is_accepted (why_verdict t buffer x space)) (sets space 0 (list_of t x)) space

-- the promise: the buffers and the number as they came, the answer, and the result slice and the space as they are left
pub record Explained (t buffer : List ℕ) (x : ℕ) (space : List ℕ) (answer : Listing) (left listed : List ℕ) : Type 0 where
  pub answer_is : answer ≡ why_answer t buffer x space
  pub result_is : left ≡ why_result t buffer x space
  pub list_is : listed ≡ why_list t buffer x space
