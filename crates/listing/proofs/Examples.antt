-- The definitions give the lines that docs/WHY.md prints, ranges in two pieces, two stores in a row, each with the instruction of its own row, and the
-- longest line of a store that they can give.
use Prim.Native.Nat.{◌*◌, ◌-◌, ◌^◌}
use mathlib.Core.Path.{◌≡◌, refl}
use mathlib.Core.List.{[], ◌∷◌}
use lib.ListN.{length}
use Rattle.range.specs.declared.Range.{Range}
use Rattle.range.specs.Range.{span, is_two, pieces}
use Rattle.table.specs.Refusals.{MOST}
use Rattle.term.specs.declared.Reason.TheVariants.{Offsets, Separate, Undecided}
use Rattle.term.specs.Term.{read, row_of}
use Rattle.text.specs.Text.{ascii, digits, decimal, spaced}
use Rattle.lines.specs.Lines.{line}
use Rattle.reasons.specs.Reasons.{piece_text, pieces_text, range_text, offsets_text, reason_text}
use Rattle.listing.specs.List.{access_text, read_line, store_line, store_lines, stands_line, result_line}

first_line : read_line 12 8 4 7 ≡ ascii "instruction 12: read 8, array 4, index 7\n"
unfolding digits decimal access_text read_line
first_line = refl

passed_store : store_line 256 6 7 (record { store = 4; index = 2; why = Separate (record { store = span 192 242; read = span 7 7 }) })
    ≡ ascii "instruction 6: store 4, index 2 against 7, separate ranges, 192..242 and 7..7\n"
unfolding digits decimal span is_two pieces piece_text pieces_text range_text reason_text access_text store_line
passed_store = refl

-- the lower piece first, with `, ` between; the upper one ends at the top of the word
two_pieces : store_line 256 6 7 (record { store = 4; index = 2; why = Separate (record { store = span 248 242; read = span 245 245 }) })
    ≡ ascii "instruction 6: store 4, index 2 against 7, separate ranges, 0..242, 248..255 and 245..245\n"
unfolding digits decimal span is_two pieces piece_text pieces_text range_text reason_text access_text store_line
two_pieces = refl

both_in_two : store_line 256 6 7 (record { store = 4; index = 2; why = Separate (record { store = span 255 0; read = span 9 5 }) })
    ≡ ascii "instruction 6: store 4, index 2 against 7, separate ranges, 0..0, 255..255 and 0..5, 9..255\n"
unfolding digits decimal span is_two pieces piece_text pieces_text range_text reason_text access_text store_line
both_in_two = refl

-- all numbers at their longest. (A lower piece begins at 0, so the line is shorter than `store_short` says.)
abbrev longest : Range
longest = span (2 ^ 64 - 2) (2 ^ 64 - 4)

longest_line : length (store_line (2 ^ 64) (2 ^ 32 - 1) (MOST - 1) (record { store = MOST - 1; index = MOST - 1; why = Separate (record { store = longest; read = longest }) })) ≡ 218
unfolding digits decimal span is_two pieces piece_text pieces_text range_text reason_text access_text store_line
longest_line = refl

two_stores : store_lines 256 (λ n. 10 * n) 7 (record { store = 9; index = 5; why = Offsets 248 224 } ∷ record { store = 4; index = 2; why = Undecided } ∷ [])
    ≡ ascii "instruction 90: store 9, index 5 against 7, different offsets on a shared base, 248 and 224\ninstruction 40: store 4, index 2 against 7, undecided\n"
unfolding digits decimal offsets_text reason_text access_text store_line store_lines
two_stores = refl

stands : stands_line 1 ≡ ascii "stands on array 1\n"
unfolding digits decimal stands_line
stands = refl

last_line : result_line 8 (row_of (read 1 7)) 12 ≡ ascii "result 8 7 1 7 0 0 0 12\n"
unfolding digits decimal spaced line row_of result_line
last_line = refl
