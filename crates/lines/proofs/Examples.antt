-- The definitions give what document 01 prints: the first line of P1, its rows 0 and 8, and the refusal of P3; and the largest numbers.
use mathlib.Core.Path.{◌≡◌, refl}
use Rattle.row.specs.Bytes.{row}
use Rattle.text.specs.Text.{ascii, digits, decimal, spaced}
use Rattle.lines.specs.Lines.{named, pair, head, refusal, line}

first_line : head 8 9 ≡ ascii "width 8 rows 9\n"
unfolding digits decimal spaced named pair head
first_line = refl

row_0 : line 0 (row 2 0 0 0 200 250) 0 ≡ ascii "0 2 0 0 0 200 250 0\n"
unfolding digits decimal spaced line
row_0 = refl

row_8 : line 8 (row 7 1 7 0 0 0) 12 ≡ ascii "8 7 1 7 0 0 0 12\n"
unfolding digits decimal spaced line
row_8 = refl

refused_14 : refusal 14 4 ≡ ascii "refused 14 row 4\n"
unfolding digits decimal spaced named pair refusal
refused_14 = refl

largest : line 1 (row 3 0 0 0 0xffff_ffff_ffff_ffff 0) 0xffff_ffff ≡ ascii "1 3 0 0 0 18446744073709551615 0 4294967295\n"
unfolding digits decimal spaced line
largest = refl
