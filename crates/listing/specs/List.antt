-- The list of a walk, as a person reads it: docs/WHY.md. Its words are below M.
use Rattle.std.specs.Prelude.{ℕ, ◌+◌, ◌*◌, List, [], ◌∷◌, ◌++◌}
use Rattle.range.specs.declared.Range.{Range}
use Rattle.row.specs.declared.Row.{Row}
use Rattle.lines.specs.Lines.{line}
use Rattle.term.specs.declared.Met.{Met}
use Rattle.term.specs.Term.{Term, const, var, shift, sum, diff, neg, read, fresh, write}
use Rattle.term.specs.Walk.{Walk, found, passed, undecided, ended, walk}
use Rattle.term.specs.Reason.{met}
use Rattle.text.specs.Text.{ascii, decimal}
use Rattle.reasons.specs.Reasons.{reason_text}

-- how the line of a load or a store begins: its instruction, where an engineer looks first, and its row
unfoldable pub access_text : ℕ → List ℕ → ℕ → List ℕ
access_text source word r = ascii "instruction " ++ decimal source ++ word ++ decimal r

-- READ row r, of array m at index i, recorded at instruction `source`
unfoldable pub read_line : ℕ → ℕ → ℕ → ℕ → List ℕ
read_line source r m i = access_text source (ascii ": read ") r ++ ascii ", array " ++ decimal m ++ ascii ", index " ++ decimal i ++ ascii "\n"

-- a store that was recorded at instruction `source` and compared with index row i
unfoldable pub store_line : ℕ → ℕ → ℕ → Met → List ℕ
store_line M source i s =
    access_text source (ascii ": store ") s.store ++ ascii ", index " ++ decimal s.index ++ ascii " against " ++ decimal i ++ ascii ", " ++
    reason_text M s.why ++ ascii "\n"

-- stores, each with the instruction of its row
unfoldable pub store_lines : ℕ → (ℕ → ℕ) → ℕ → List Met → List ℕ
store_lines M source i [] = []
store_lines M source i (s ∷ ss) = store_line M (source s.store) i s ++ store_lines M source i ss

-- where a walk ended: the row of the element that was found, or the array that the read stands on
unfoldable pub found_line : ℕ → List ℕ
found_line c = ascii "found element " ++ decimal c ++ ascii "\n"

unfoldable pub stands_line : ℕ → List ℕ
stands_line m = ascii "stands on array " ++ decimal m ++ ascii "\n"

unfoldable pub end_line : Walk → List ℕ
end_line (found m c) = found_line c
end_line (passed m onward) = end_line onward
end_line (undecided m) = stands_line m
end_line (ended m) = stands_line m

-- result row r, which is x and was recorded at instruction `source`, as `show` prints it
unfoldable pub result_line : ℕ → Row → ℕ → List ℕ
result_line r x source = ascii "result " ++ line r x source

-- the stores that the walk w compared for index row i, nearest first, and where it ended; `source` has the instruction of each row
unfoldable pub walk_lines : ℕ → (ℕ → Term) → (ℕ → Range) → (ℕ → ℕ) → ℕ → Walk → List ℕ
walk_lines M f g source i w = store_lines M source i (met f g i w) ++ end_line w

-- the list of READ row r, of array m at index i, whose walk is w; x is the row that it became
unfoldable pub list : ℕ → (ℕ → Term) → (ℕ → Range) → (ℕ → ℕ) → ℕ → ℕ → ℕ → Walk → Row → List ℕ
list M f g source r m i w x = read_line (source r) r m i ++ walk_lines M f g source i w ++ result_line r x (source r)

-- the bytes that a list takes at most, by the number of stores compared
abbrev pub most : ℕ → ℕ
most compared = 256 * compared + 256

-- the list of row r of a table, which is the given term: a read compares at most `limit` stores. (Of a row that is no READ none is asked for.)
module _ (M limit : ℕ) (f : ℕ → Term) (g : ℕ → Range) (source : ℕ → ℕ) (r : ℕ) (x : Row) where
  unfoldable pub list_for : Term → List ℕ
  list_for (const k) = []
  list_for (var name k h) = []
  list_for (shift a k) = []
  list_for (sum a b k) = []
  list_for (diff a b k) = []
  list_for (neg a k) = []
  list_for (read m i) = list M f g source r m i (walk f g i limit m) x
  list_for fresh = []
  list_for (write a b c) = []
