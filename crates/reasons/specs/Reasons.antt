-- Reasons, as a person reads them: docs/WHY.md. Their words are below M.
use Rattle.std.specs.Prelude.{ℕ, List, [], ◌∷◌, ◌++◌}
use Rattle.range.specs.declared.Range.{Range}
use Rattle.pieces.specs.Pieces.{Piece}
use Rattle.range.specs.Range.{pieces}
use Rattle.term.specs.declared.Reason.{Reason}
use Rattle.term.specs.declared.Reason.TheVariants.{SamePlace, Offsets, Separate, Undecided}
use Rattle.text.specs.Text.{ascii, decimal}

-- a piece, by its two ends
unfoldable pub piece_text : Piece → List ℕ
piece_text p = decimal p.lo ++ ascii ".." ++ decimal p.hi

unfoldable pub pieces_text : List Piece → List ℕ
pieces_text [] = []
pieces_text (p ∷ []) = piece_text p
pieces_text (p ∷ q ∷ ps) = piece_text p ++ ascii ", " ++ pieces_text (q ∷ ps)

-- a range, its lower piece first: the one place where a range is written
unfoldable pub range_text : ℕ → Range → List ℕ
range_text M a = pieces_text (pieces M a)

unfoldable pub offsets_text : ℕ → ℕ → List ℕ
offsets_text p q = ascii "different offsets on a shared base, " ++ decimal p ++ ascii " and " ++ decimal q

unfoldable pub reason_text : ℕ → Reason → List ℕ
reason_text M SamePlace = ascii "same place"
reason_text M (Offsets p q) = offsets_text p q
reason_text M (Separate spans) = ascii "separate ranges, " ++ range_text M spans.store ++ ascii " and " ++ range_text M spans.read
reason_text M Undecided = ascii "undecided"
