-- The definition, tried on words: the smallest and the largest number, zeros in front, and what is no number.
use mathlib.Core.Path.{◌≡◌, refl}
use Rattle.text.specs.Text.{ascii, read}
use Rattle.std.specs.Prelude.{Some, None}
use Rattle.argument.specs.Argument.{is_digit, all_digits, is_number, number_of}

zero : number_of (ascii "0") ≡ Some 0
unfolding read is_digit all_digits is_number number_of
zero = refl

largest : number_of (ascii "18446744073709551615") ≡ Some 0xffff_ffff_ffff_ffff
unfolding read is_digit all_digits is_number number_of
largest = refl

zeros_in_front : number_of (ascii "00000000000000000008") ≡ Some 8
unfolding read is_digit all_digits is_number number_of
zeros_in_front = refl

empty : number_of (ascii "") ≡ None
unfolding read is_digit all_digits is_number number_of
empty = refl

too_large : number_of (ascii "18446744073709551616") ≡ None
unfolding read is_digit all_digits is_number number_of
too_large = refl

too_long : number_of (ascii "000000000000000000008") ≡ None
unfolding read is_digit all_digits is_number number_of
too_long = refl

signed : number_of (ascii "+8") ≡ None
unfolding read is_digit all_digits is_number number_of
signed = refl

spaced : number_of (ascii "8 ") ≡ None
unfolding read is_digit all_digits is_number number_of
spaced = refl

lettered : number_of (ascii "0x8") ≡ None
unfolding read is_digit all_digits is_number number_of
lettered = refl
