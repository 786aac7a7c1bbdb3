-- The definition gives each kind of line: of document 01's P1, of P2, whose row 2 has a range in two pieces, and the longest that it can give.
use Prim.Native.Nat.{◌-◌, ◌^◌}
use mathlib.Core.Path.{◌≡◌, refl}
use lib.ListN.{length}
use Rattle.range.specs.declared.Range.{Range}
use Rattle.range.specs.Range.{span, is_two, pieces}
use Rattle.term.specs.declared.Reason.TheVariants.{SamePlace, Offsets, Separate, Undecided}
use Rattle.term.specs.Reason.{known_by}
use Rattle.text.specs.Text.{ascii, digits, decimal}
use Rattle.reasons.specs.Reasons.{piece_text, pieces_text, range_text, offsets_text, reason_text}
use Rattle.compare.specs.Line.{relation_text, rows_text, line}

same_place : line 256 2 6 SamePlace ≡ ascii "rows 2 and 6: same, same place\n"
unfolding digits decimal reason_text known_by relation_text rows_text line
same_place = refl

-- the first row's offset first
different_offsets : line 256 0 2 (Offsets 0 248) ≡ ascii "rows 0 and 2: apart, different offsets on a shared base, 0 and 248\n"
unfolding digits decimal offsets_text reason_text known_by relation_text rows_text line
different_offsets = refl

-- the first row's range first
separate_ranges : line 256 2 7 (Separate (record { store = span 192 242; read = span 7 7 }))
    ≡ ascii "rows 2 and 7: apart, separate ranges, 192..242 and 7..7\n"
unfolding digits decimal span is_two pieces piece_text pieces_text range_text reason_text known_by relation_text rows_text line
separate_ranges = refl

two_pieces : line 256 3 2 (Separate (record { store = span 245 245; read = span 248 242 }))
    ≡ ascii "rows 3 and 2: apart, separate ranges, 245..245 and 0..242, 248..255\n"
unfolding digits decimal span is_two pieces piece_text pieces_text range_text reason_text known_by relation_text rows_text line
two_pieces = refl

undecided : line 256 7 8 Undecided ≡ ascii "rows 7 and 8: not known, undecided\n"
unfolding digits decimal reason_text known_by relation_text rows_text line
undecided = refl

abbrev longest : Range
longest = span (2 ^ 64 - 2) (2 ^ 64 - 4)

-- all numbers at their longest. (Rows have at most four digits, and a lower piece begins at 0.)
longest_line : length (line (2 ^ 64) 1023 1023 (Separate (record { store = longest; read = longest }))) ≡ 184
unfolding digits decimal span is_two pieces piece_text pieces_text range_text reason_text known_by relation_text rows_text line
longest_line = refl
