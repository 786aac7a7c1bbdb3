-- What a case says of the definitions, and the test of it.
use Rattle.std.specs.Prelude.{ℕ, suc, ◌-◌, ◌^◌, Bool, true, false, cond, ◌&&◌, List, [], ◌∷◌, ◌++◌, length, replicate, eqb}
use Rattle.range.specs.declared.Range.{Range}
use Rattle.pieces.specs.Pieces.{Piece, union, fewest}
use Rattle.range.specs.Range.{pieces, negation}
use Rattle.range.specs.Range as range
use Rattle.in_bytes.specs.Numbers.{bytes}
use Rattle.row.specs.Bytes.{bytes_of}
use Rattle.term.specs.Term.{Term, row_of}
use Rattle.term.specs.Relation.{relation_number}
use Rattle.term.specs.Bytes.{edited}
use Rattle.judge.specs.Run.{LIMIT}
use Rattle.simplify.specs.declared.Answer.{Answer}
use Rattle.simplify.specs.Run.{run_answer, run_result}
use Rattle.simplify.specs.Edit.{edit_answer, edit_table, edit_kept}
use Rattle.question.specs.Ask.{ask_relation, ask_answer}

pub data Case : Type 0 where
  -- at a width, the pieces of a range plus a range
  plus : ℕ → Range → Range → List Piece → Case
  -- at a width, the pieces of a range negated
  negated : ℕ → Range → List Piece → Case
  -- the union of pieces, with gaps filled until two remain
  gathered : List Piece → List Piece → Case
  -- at a width, a table's fresh result, with the limit 1,024; removed, touched, compared
  runs : ℕ → List Term → List Term → ℕ → ℕ → ℕ → Case
  -- the same with the limit that stands first
  runs_within : ℕ → ℕ → List Term → List Term → ℕ → ℕ → ℕ → Case
  -- at a width, a table, a row number and its replacement: the table's own kept result after the edit, with the limit 1,024; removed, touched, compared
  edits : ℕ → List Term → ℕ → Term → List Term → ℕ → ℕ → ℕ → Case
  -- the same with two limits: the one that the kept result was made with, and the edit's
  edits_within : ℕ → ℕ → ℕ → List Term → ℕ → Term → List Term → ℕ → ℕ → ℕ → Case
  -- the same with the limit 1,024, where the edit is refused: number, row
  refuses : ℕ → List Term → ℕ → Term → ℕ → ℕ → Case
  -- of bytes: a table, a result slice and a limit with which a run is refused: number, row
  refuses_run : List ℕ → List ℕ → ℕ → ℕ → ℕ → Case
  -- of bytes: a table, a kept result, a row number, a replacement and a limit with which an edit is refused: number, row
  refuses_edit : List ℕ → List ℕ → ℕ → List ℕ → ℕ → ℕ → ℕ → Case
  -- at a width, a table, a kept result and two row numbers: what a question answers: number, row, and document 01's number of what is known
  asks : ℕ → List Term → List Term → ℕ → ℕ → ℕ → ℕ → ℕ → Case

same_pieces : List Piece → List Piece → Bool
same_pieces [] [] = true
same_pieces [] (q ∷ qs) = false
same_pieces (p ∷ ps) [] = false
same_pieces (p ∷ ps) (q ∷ qs) = eqb p.lo q.lo && eqb p.hi q.hi && same_pieces ps qs

same_bytes : List ℕ → List ℕ → Bool
same_bytes [] [] = true
same_bytes [] (b ∷ bs) = false
same_bytes (a ∷ rest) [] = false
same_bytes (a ∷ rest) (b ∷ bs) = eqb a b && same_bytes rest bs

answers : Answer → ℕ → ℕ → ℕ → ℕ → ℕ → Bool
answers a refusal row removed touched compared =
    eqb a.refusal refusal && eqb a.row row && eqb a.removed removed && eqb a.touched touched && eqb a.compared compared

-- the sources of a case: another for each row of its table, and one of its own for the replacement of a row
unfoldable pub recorded : ℕ → ℕ
recorded x = 0xfedcba98 - x

replaced : ℕ
replaced = 0x01020304

-- the sources after an edit of row r
patched : ℕ → ℕ → ℕ
patched r x = cond (eqb x r) replaced (recorded x)

-- rows from number x on
unfoldable pub rows_of : (ℕ → ℕ) → ℕ → List Term → List ℕ
rows_of source x [] = []
rows_of source x (t ∷ ts) = bytes_of (row_of t) (source x) ++ rows_of source (suc x) ts

-- the bytes of a table
unfoldable pub table_of : (ℕ → ℕ) → ℕ → List Term → List ℕ
table_of source w ts = (0x46 ∷ 0x54 ∷ w ∷ 0 ∷ []) ++ bytes 2 (length ts) ++ rows_of source 0 ts

-- a buffer as long as a table
unfoldable pub room : List ℕ → List ℕ
room t = replicate (length t) 0

-- a table's own kept result, made with a limit
own_kept : List ℕ → ℕ → List ℕ
own_kept t limit = run_result t (room t) limit

runs_to : List ℕ → ℕ → List ℕ → ℕ → ℕ → ℕ → Bool
runs_to t limit f removed touched compared =
    answers (run_answer t (room t) limit) 0 0 removed touched compared && same_bytes (run_result t (room t) limit) f

edits_to : List ℕ → List ℕ → ℕ → List ℕ → ℕ → List ℕ → ℕ → ℕ → ℕ → Bool
edits_to t kept r x limit f removed touched compared =
    answers (edit_answer t kept r x limit) 0 0 removed touched compared && same_bytes (edit_table t kept r x limit) (edited t r x) &&
    same_bytes (edit_kept t kept r x limit) f

-- refused, and nothing is changed
run_refused : List ℕ → List ℕ → ℕ → ℕ → ℕ → Bool
run_refused t buffer limit number row = answers (run_answer t buffer limit) number row 0 0 0 && same_bytes (run_result t buffer limit) buffer

edit_refused : List ℕ → List ℕ → ℕ → List ℕ → ℕ → ℕ → ℕ → Bool
edit_refused t kept r x limit number row =
    answers (edit_answer t kept r x limit) number row 0 0 0 && same_bytes (edit_table t kept r x limit) t && same_bytes (edit_kept t kept r x limit) kept

asks_to : List ℕ → List ℕ → ℕ → ℕ → ℕ → ℕ → ℕ → Bool
asks_to t kept x y number row known = answers (ask_answer t kept x y).answer number row 0 0 0 && eqb (relation_number (ask_relation t kept x y)) known

unfoldable pub holds : Case → Bool
unfolding same_pieces same_bytes answers recorded replaced patched rows_of table_of room own_kept runs_to edits_to run_refused edit_refused asks_to
holds (plus w a b ps) = same_pieces (pieces (2 ^ w) (range.sum (2 ^ w) a b)) ps
holds (negated w a ps) = same_pieces (pieces (2 ^ w) (negation (2 ^ w) a)) ps
holds (gathered ps qs) = same_pieces (fewest (union ps)) qs
holds (runs w t f removed touched compared) = runs_to (table_of recorded w t) LIMIT (table_of recorded w f) removed touched compared
holds (runs_within limit w t f removed touched compared) = runs_to (table_of recorded w t) limit (table_of recorded w f) removed touched compared
holds (edits w t r x f removed touched compared) =
    let table = table_of recorded w t in
    edits_to table (own_kept table LIMIT) r (bytes_of (row_of x) replaced) LIMIT (table_of (patched r) w f) removed touched compared
holds (edits_within made limit w t r x f removed touched compared) =
    let table = table_of recorded w t in
    edits_to table (own_kept table made) r (bytes_of (row_of x) replaced) limit (table_of (patched r) w f) removed touched compared
holds (refuses w t r x number row) =
    let table = table_of recorded w t in
    edit_refused table (own_kept table LIMIT) r (bytes_of (row_of x) replaced) LIMIT number row
holds (refuses_run t buffer limit number row) = run_refused t buffer limit number row
holds (refuses_edit t kept r x limit number row) = edit_refused t kept r x limit number row
holds (asks w t kept x y number row known) = asks_to (table_of recorded w t) (table_of recorded w kept) x y number row known

unfoldable pub all_hold : List Case → Bool
all_hold [] = true
all_hold (c ∷ cs) = holds c && all_hold cs
