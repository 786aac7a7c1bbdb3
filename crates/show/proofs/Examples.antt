-- The definition, tried on arguments: none, the lowest and the highest limit, and what gives none.
use mathlib.Core.Path.{◌≡◌, refl}
use Rattle.text.specs.Text.{ascii, read}
use Rattle.std.specs.Prelude.{Some, None}
use Rattle.argument.specs.Argument.{same_word, is_digit, all_digits, is_number, number_of}
use Rattle.show.specs.Limit.{within, limit_from}

no_arguments : limit_from 1 (ascii "") (ascii "") ≡ Some 1024
unfolding read same_word is_digit all_digits is_number number_of within limit_from
no_arguments = refl

lowest : limit_from 3 (ascii "--limit") (ascii "0") ≡ Some 0
unfolding read same_word is_digit all_digits is_number number_of within limit_from
lowest = refl

highest : limit_from 3 (ascii "--limit") (ascii "1024") ≡ Some 1024
unfolding read same_word is_digit all_digits is_number number_of within limit_from
highest = refl

too_high : limit_from 3 (ascii "--limit") (ascii "1025") ≡ None
unfolding read same_word is_digit all_digits is_number number_of within limit_from
too_high = refl

-- the largest number of 64 bits
as_high_as_can_be : limit_from 3 (ascii "--limit") (ascii "18446744073709551615") ≡ None
unfolding read same_word is_digit all_digits is_number number_of within limit_from
as_high_as_can_be = refl

-- 3 above what 64 bits count to
wrapped : limit_from 3 (ascii "--limit") (ascii "18446744073709551619") ≡ None
unfolding read same_word is_digit all_digits is_number number_of within limit_from
wrapped = refl

no_number : limit_from 3 (ascii "--limit") (ascii "three") ≡ None
unfolding read same_word is_digit all_digits is_number number_of within limit_from
no_number = refl

word_alone : limit_from 2 (ascii "--limit") (ascii "") ≡ None
unfolding read same_word is_digit all_digits is_number number_of within limit_from
word_alone = refl

one_more : limit_from 4 (ascii "--limit") (ascii "3") ≡ None
unfolding read same_word is_digit all_digits is_number number_of within limit_from
one_more = refl

longer_word : limit_from 3 (ascii "--limits") (ascii "3") ≡ None
unfolding read same_word is_digit all_digits is_number number_of within limit_from
longer_word = refl

one_word_of_both : limit_from 2 (ascii "--limit=3") (ascii "") ≡ None
unfolding read same_word is_digit all_digits is_number number_of within limit_from
one_word_of_both = refl
