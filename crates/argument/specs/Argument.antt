-- What an argument of a program gives: a known word, or a number.
use Rattle.std.specs.Prelude.{ℕ, ◌^◌, Option, Some, None, Bool, true, false, cond, ◌&&◌, List, [], ◌∷◌, eqb, leb, ltb, length}
use Rattle.text.specs.Text.{read}

-- byte by byte
unfoldable pub same_word : List ℕ → List ℕ → Bool
same_word [] [] = true
same_word [] (d ∷ ds) = false
same_word (c ∷ cs) [] = false
same_word (c ∷ cs) (d ∷ ds) = eqb c d && same_word cs ds

-- 48 is `0` and 57 is `9`
unfoldable pub is_digit : ℕ → Bool
is_digit c = leb 48 c && leb c 57

unfoldable pub all_digits : List ℕ → Bool
all_digits [] = true
all_digits (c ∷ cs) = is_digit c && all_digits cs

-- the digits that a number of 64 bits has at most
abbrev pub DIGITS : ℕ
DIGITS = 20

-- 1 to 20 bytes, every one a digit, that read as a number of 64 bits
unfoldable pub is_number : List ℕ → Bool
is_number word = leb 1 (length word) && leb (length word) DIGITS && all_digits word && ltb (read 0 word) (2 ^ 64)

unfoldable pub number_of : List ℕ → Option ℕ
number_of word = cond (is_number word) (Some (read 0 word)) None
