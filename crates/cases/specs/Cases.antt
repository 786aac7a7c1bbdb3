-- P1 to P10, with ranges in two pieces (document 02, A5), registers seen twice (A2), questions about a kept result (A6), and limits (A8).
use Rattle.std.specs.Prelude.{ℕ, ◌-◌, ◌^◌, List, [], ◌∷◌, ◌++◌, replicate}
use Rattle.pieces.specs.Pieces.{piece}
use Rattle.range.specs.Range.{span, point}
use Rattle.row.specs.Names.{LENGTH}
use Rattle.row.specs.Bytes.{bytes_of}
use Rattle.term.specs.Term.{Term, const, var, shift, diff, read, fresh, write, row_of}
use Rattle.cases.specs.Case.{Case, plus, negated, gathered, runs, runs_within, edits, edits_within, refuses, refuses_run, refuses_edit, asks, recorded, table_of, room}

-- the table of P1
unfoldable pub p1 : List Term
p1 = var 0 200 250 ∷ fresh ∷ shift 0 248 ∷ const 7 ∷ write 1 2 3 ∷ shift 0 224 ∷ shift 5 24 ∷ read 4 6 ∷ read 4 7 ∷ []

-- its fresh result
unfoldable pub p1_result : List Term
p1_result = var 0 200 250 ∷ fresh ∷ shift 0 248 ∷ const 7 ∷ write 1 2 3 ∷ shift 0 224 ∷ shift 0 248 ∷ const 7 ∷ read 1 7 ∷ []

-- its fresh result with the limit 0
unfoldable pub p1_stopped : List Term
p1_stopped = var 0 200 250 ∷ fresh ∷ shift 0 248 ∷ const 7 ∷ write 1 2 3 ∷ shift 0 224 ∷ shift 0 248 ∷ read 4 6 ∷ read 4 7 ∷ []

-- rows 6 to 8 store at x, x + 1 and x + 2, one on the other, and row 15 at x + 2 again; rows 9, 10, 12 and 14 read over the first three: at x + 3, which none of them
-- has; at x + 1, which is the second on the way; at another variable; and at x, which is the third, through row 13, which is x plus 0
unfoldable pub begins : List Term
begins = var 0 0 255 ∷ fresh ∷ const 7 ∷ shift 0 1 ∷ shift 0 2 ∷ shift 0 3 ∷ write 1 0 2 ∷ write 6 3 2 ∷ write 7 4 2 ∷ []

unfoldable pub chain : List Term
chain = begins ++ read 8 5 ∷ read 8 3 ∷ var 0 0 255 ∷ read 8 11 ∷ shift 0 0 ∷ read 8 13 ∷ write 8 4 11 ∷ []

-- its result where the four reads are as given: row 15 stands on row 7, whatever the limit
unfoldable pub chain_result : Term → Term → Term → Term → List Term
chain_result a b c d = begins ++ a ∷ b ∷ var 0 0 255 ∷ c ∷ shift 0 0 ∷ d ∷ write 7 4 11 ∷ []

-- rows 5 and 7 read at x + 1 and at another variable, row 6, over a store at x; the result where row 6 and the two reads are as given
unfoldable pub pair : List Term
pair = var 0 0 255 ∷ fresh ∷ const 7 ∷ shift 0 1 ∷ write 1 0 2 ∷ read 4 3 ∷ var 0 0 255 ∷ read 4 6 ∷ []

unfoldable pub pair_result : Term → Term → Term → List Term
pair_result a y b = var 0 0 255 ∷ fresh ∷ const 7 ∷ shift 0 1 ∷ write 1 0 2 ∷ a ∷ y ∷ b ∷ []

-- the bytes of a table of one row, and of one whose row has no mark; a row, and too long a row
unfoldable pub single : List ℕ
single = table_of recorded 8 (const 1 ∷ [])

unfoldable pub unmarked : List ℕ
unmarked = (0x46 ∷ 0x54 ∷ 8 ∷ 0 ∷ 1 ∷ 0 ∷ []) ++ replicate LENGTH 0

unfoldable pub other : List ℕ
other = bytes_of (row_of (const 2)) 0

unfoldable pub long : List ℕ
long = other ++ 0 ∷ []

-- one more than the greatest limit, and the largest number of 64 bits
unfoldable pub above : ℕ
above = 1025

unfoldable pub largest : ℕ
largest = 2 ^ 64 - 1

unfoldable pub cases : List Case
cases =
    -- P1
    runs 8 p1 p1_result 1 9 2 ∷
    -- P2
    edits 8 p1 0 (var 0 0 250)
    (var 0 0 250 ∷ fresh ∷ shift 0 248 ∷ const 7 ∷ write 1 2 3 ∷ shift 0 224 ∷ shift 0 248 ∷ const 7 ∷ read 4 7 ∷ [])
    1 7 2 ∷
    -- P3
    refuses 8 p1 1 (const 0) 14 4 ∷
    -- P4
    runs 8 [] [] 0 0 0 ∷
    -- P2: row 2
    plus 8 (span 0 250) (point 248) (piece 0 242 ∷ piece 248 255 ∷ []) ∷
    -- P5
    plus 8 (span 0 254) (point 1) (piece 1 255 ∷ []) ∷
    plus 8 (span 0 255) (point 1) (piece 0 255 ∷ []) ∷
    -- P6
    plus 8 (span 255 255) (point 1) (piece 0 0 ∷ []) ∷
    plus 8 (span 254 255) (point 1) (piece 0 0 ∷ piece 255 255 ∷ []) ∷
    -- P7
    negated 8 (span 0 0) (piece 0 0 ∷ []) ∷
    negated 8 (span 1 5) (piece 251 255 ∷ []) ∷
    negated 8 (span 0 5) (piece 0 0 ∷ piece 251 255 ∷ []) ∷
    -- A5: pieces that touch are one; the smallest gap is filled, and of two equal ones the lower
    negated 8 (span 0 255) (piece 0 255 ∷ []) ∷
    gathered (piece 7 9 ∷ piece 0 3 ∷ piece 4 5 ∷ []) (piece 0 5 ∷ piece 7 9 ∷ []) ∷
    gathered (piece 0 0 ∷ piece 7 7 ∷ piece 5 5 ∷ []) (piece 0 0 ∷ piece 5 7 ∷ []) ∷
    gathered (piece 0 1 ∷ piece 4 5 ∷ piece 8 9 ∷ []) (piece 0 5 ∷ piece 8 9 ∷ []) ∷
    -- P8: (x + 5) - (x + 3), and reversed
    runs 8
    (var 0 0 255 ∷ shift 0 5 ∷ shift 0 3 ∷ diff 1 2 0 ∷ diff 2 1 0 ∷ [])
    (var 0 0 255 ∷ shift 0 5 ∷ shift 0 3 ∷ const 2 ∷ const 254 ∷ [])
    0 5 0 ∷
    -- P9
    runs 64
    (var 0 0 (2 ^ 64 - 1) ∷ shift 0 (2 ^ 64 - 1) ∷ shift 1 1 ∷ [])
    (var 0 0 (2 ^ 64 - 1) ∷ shift 0 (2 ^ 64 - 1) ∷ shift 0 0 ∷ [])
    0 3 0 ∷
    -- P10
    runs 8
    (fresh ∷ var 0 0 255 ∷ const 1 ∷ const 2 ∷ write 0 1 2 ∷ write 4 1 3 ∷ [])
    (fresh ∷ var 0 0 255 ∷ const 1 ∷ const 2 ∷ write 0 1 2 ∷ write 0 1 3 ∷ [])
    0 6 0 ∷
    -- A5: stored through a pointer that crosses zero, read in the gap and at the pointer's lower piece
    runs 8
    (var 0 0 250 ∷ fresh ∷ shift 0 248 ∷ const 245 ∷ const 9 ∷ write 1 2 3 ∷ read 5 3 ∷ read 5 4 ∷ [])
    (var 0 0 250 ∷ fresh ∷ shift 0 248 ∷ const 245 ∷ const 9 ∷ write 1 2 3 ∷ read 1 3 ∷ read 5 4 ∷ [])
    0 8 2 ∷
    -- A2: a register minus itself
    runs 8
    (var 3 0 255 ∷ var 3 0 255 ∷ diff 1 0 0 ∷ [])
    (var 3 0 255 ∷ shift 0 0 ∷ const 0 ∷ [])
    0 3 0 ∷
    -- A2: names that agree modulo 256, and rows without a name
    runs 8
    (var 3 0 9 ∷ var 259 0 9 ∷ var 0 0 9 ∷ var 0 0 9 ∷ var 259 0 9 ∷ diff 1 0 0 ∷ diff 3 2 0 ∷ diff 4 1 0 ∷ [])
    (var 3 0 9 ∷ var 259 0 9 ∷ var 0 0 9 ∷ var 0 0 9 ∷ shift 1 0 ∷ diff 1 0 0 ∷ diff 3 2 0 ∷ const 0 ∷ [])
    0 8 0 ∷
    -- A2: stored through the first, read through the second
    runs 8
    (var 3 100 200 ∷ fresh ∷ const 7 ∷ write 1 0 2 ∷ var 3 100 200 ∷ read 3 4 ∷ [])
    (var 3 100 200 ∷ fresh ∷ const 7 ∷ write 1 0 2 ∷ shift 0 0 ∷ const 7 ∷ [])
    1 6 1 ∷
    -- A2: other bounds, of the first and of a later row, and in a row that stays; 15 goes first
    refuses 8 (var 3 0 9 ∷ const 1 ∷ var 3 0 9 ∷ var 3 0 9 ∷ []) 0 (var 3 0 8) 18 2 ∷
    refuses 8 (var 3 0 9 ∷ const 1 ∷ var 3 0 9 ∷ var 3 0 9 ∷ []) 2 (var 3 1 9) 18 2 ∷
    refuses 8 (var 3 0 9 ∷ var 3 0 8 ∷ const 1 ∷ []) 2 (const 0) 18 1 ∷
    refuses 8 (var 3 0 9 ∷ var 3 0 9 ∷ []) 1 (var 3 9 0) 15 1 ∷
    -- A2: the first gets another name, so the second is the first of its name; a third leads back by the name that was
    edits 8 (var 3 0 9 ∷ var 3 0 9 ∷ var 3 0 9 ∷ diff 2 0 5 ∷ const 1 ∷ []) 0 (var 4 0 9)
    (var 4 0 9 ∷ var 3 0 9 ∷ shift 1 0 ∷ diff 1 0 5 ∷ const 1 ∷ [])
    0 4 0 ∷
    -- A2: a row above the first gets its name
    edits 8 (const 1 ∷ var 3 0 9 ∷ shift 1 2 ∷ var 4 0 9 ∷ []) 0 (var 3 0 9)
    (var 3 0 9 ∷ shift 0 0 ∷ shift 0 2 ∷ var 4 0 9 ∷ [])
    0 3 0 ∷
    -- A2: a later row gets another name: those behind it do not lead back to it
    edits 8 (var 3 0 9 ∷ var 3 0 9 ∷ var 3 0 9 ∷ []) 1 (var 4 0 9)
    (var 3 0 9 ∷ var 4 0 9 ∷ shift 0 0 ∷ [])
    0 1 0 ∷
    -- A6: P1 with its own kept result: the same; separate ranges; other offsets on a shared base; not known
    asks 8 p1 p1_result 2 6 0 0 1 ∷
    asks 8 p1 p1_result 2 7 0 0 2 ∷
    asks 8 p1 p1_result 0 2 0 0 2 ∷
    asks 8 p1 p1_result 7 8 0 0 0 ∷
    -- A6: rows that are arrays, the first number first; a number that is not below n
    asks 8 p1 p1_result 1 1 14 1 0 ∷
    asks 8 p1 p1_result 1 4 14 1 0 ∷
    asks 8 p1 p1_result 2 4 14 4 0 ∷
    asks 8 p1 p1_result 1 9 7 0 0 ∷
    -- A6: of a kept result that is not the table's own, the rows as they stand; one of other sorts, which goes before 14
    asks 8 p1 p1 2 6 0 0 0 ∷
    asks 8 p1 (const 0 ∷ const 0 ∷ const 0 ∷ const 0 ∷ const 0 ∷ const 0 ∷ const 0 ∷ const 0 ∷ const 0 ∷ []) 1 4 16 0 0 ∷
    -- A8: the chain with every limit from 0 to 3, and with 1,024
    runs_within 0 8 chain (chain_result (read 8 5) (read 8 3) (read 8 11) (read 8 0)) 0 16 0 ∷
    runs_within 1 8 chain (chain_result (read 7 5) (read 7 3) (read 8 11) (read 7 0)) 0 16 4 ∷
    runs_within 2 8 chain (chain_result (read 6 5) (const 7) (read 8 11) (read 6 0)) 1 16 7 ∷
    runs_within 3 8 chain (chain_result (read 1 5) (const 7) (read 8 11) (const 7)) 2 16 9 ∷
    runs 8 chain (chain_result (read 1 5) (const 7) (read 8 11) (const 7)) 2 16 9 ∷
    -- A8: row 6 becomes x plus 0: of the two reads only row 7 is worked out anew, and counted
    edits_within 1 1 8 pair 6 (shift 0 0) (pair_result (read 1 3) (shift 0 0) (const 7)) 1 2 1 ∷
    -- A8: over a kept result that was made with another limit: row 5 stays as that one left it
    edits_within 0 1 8 pair 6 (shift 0 0) (pair_result (read 4 3) (shift 0 0) (const 7)) 1 2 1 ∷
    edits_within 1 0 8 pair 6 (shift 0 0) (pair_result (read 1 3) (shift 0 0) (read 4 0)) 0 2 0 ∷
    -- A8: a question about a kept result is about the rows that its limit gave: row 7 is 7, or is not known to be
    runs_within 0 8 p1 p1_stopped 0 9 0 ∷
    asks 8 p1 p1_result 3 7 0 0 1 ∷
    asks 8 p1 p1_stopped 3 7 0 0 0 ∷
    -- A8: a limit above 1,024, after 6 and before 9
    refuses_run single (room single) above 19 0 ∷
    refuses_run single (room single) largest 19 0 ∷
    refuses_run single [] above 6 0 ∷
    refuses_run unmarked (room unmarked) above 19 0 ∷
    refuses_run unmarked (room unmarked) 1024 9 0 ∷
    -- A8: the same of an edit, after 7 and 8, before 9 and 16
    refuses_edit single single 0 other above 19 0 ∷
    refuses_edit single single 0 other largest 19 0 ∷
    refuses_edit single single 1 other above 7 0 ∷
    refuses_edit single single 0 long above 8 0 ∷
    refuses_edit single single 0 (replicate LENGTH 0) above 19 0 ∷
    refuses_edit single single 0 (replicate LENGTH 0) 1024 9 0 ∷
    refuses_edit single unmarked 0 other above 19 0 ∷
    refuses_edit single unmarked 0 other 1024 16 0 ∷
    []
