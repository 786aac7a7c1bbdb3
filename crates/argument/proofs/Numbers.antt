-- The number that a word reads as: byte by byte, as the code goes, and that a number's own decimal reads as that number.
use Prim.Native.Nat.{ℕ, ◌+◌, ◌-◌, ◌*◌, ◌^◌, ◌≤◌, ◌<◌}
use native.Mathlib.Nat.{le_refl}
use native.Mathlib.Numerals.{add-one}
use native.Mathlib.Omega.{arith}
use mathlib.Core.Path.{◌≡◌, refl, sym, ap, ◌∙◌}
use mathlib.Core.Bool.{Bool, true, false, not, ◌&&◌}
use mathlib.Core.List.{List, [], ◌∷◌}
use lib.Dec.{leb}
use lib.ListN.{length, get_or, drop, drop_of_length-le}
use lib.Seq.{drop-cons}
use borrow.Author.Tests.{lt-ltb, le-ltb, le-leb, lt-leb, leb-true, not-true, not-false}
use Rattle.basis.proofs.Pick.{and_true, and_false_left, and_false_right, and_left}
use Rattle.text.specs.Text.{decimal, read}
use Rattle.text.proofs.Decimal.{AllDigits, decimal_some, decimal_few, decimal_all, decimal_read}
use Rattle.std.specs.Prelude.{Some, None}
use Rattle.argument.specs.Argument.{is_digit, all_digits, is_number, number_of, DIGITS}

-- ---- a digit

pub digit_low : (c : ℕ) (digit : Bool) → digit ≡ is_digit c → not digit ≡ false → 48 ≤ c
unfolding is_digit
digit_low c digit told e = leb-true 48 c (and_left (leb 48 c) (leb c 57) (sym told ∙ not-false digit e))

pub below_digits : (c : ℕ) → c < 48 → leb 48 c ≡ is_digit c
unfolding is_digit
below_digits c h = rw (lt-leb 48 c h)

pub from_digits : (c : ℕ) → 48 ≤ c → leb c 57 ≡ is_digit c
unfolding is_digit
from_digits c h = rw (le-leb 48 c h)

-- ---- the four tests of a word: all hold, or one fails

word_number : (word : List ℕ) → 1 ≤ length word → length word ≤ DIGITS → all_digits word ≡ true → read 0 word < 2 ^ 64
    → number_of word ≡ Some (read 0 word)
unfolding number_of is_number
word_number word some few digits small =
    rw (le-leb 1 (length word) some, le-leb (length word) DIGITS few, digits, lt-ltb (read 0 word) (2 ^ 64) small)

pub word_empty : (word : List ℕ) → length word ≡ 0 → None ≡ number_of word
unfolding number_of is_number
word_empty word e = let none : leb 1 (length word) ≡ false = lt-leb 1 (length word) (omega arith) in rw none

pub word_long : (word : List ℕ) → DIGITS < length word → None ≡ number_of word
unfolding number_of is_number
word_long word h = rw (lt-leb (length word) DIGITS h, and_false_right (leb 1 (length word)) false refl)

word_strange : (word : List ℕ) → all_digits word ≡ false → None ≡ number_of word
unfolding number_of is_number
word_strange word e = rw (e, and_false_right (leb 1 (length word) && leb (length word) DIGITS) false refl)

word_large : (word : List ℕ) → 2 ^ 64 ≤ read 0 word → None ≡ number_of word
unfolding number_of is_number
word_large word h =
    rw (le-ltb (read 0 word) (2 ^ 64) h, and_false_right (leb 1 (length word) && leb (length word) DIGITS && all_digits word) false refl)

-- ---- byte by byte

-- the first i bytes are digits that read as `value`: the rest decides, read after them
pub record Onward (word : List ℕ) (i value : ℕ) : Type 0 where
  pub digits : all_digits (drop i word) ≡ all_digits word
  pub reads : read value (drop i word) ≡ read 0 word
  pub small : value < 2 ^ 64

pub reading_begins : (word : List ℕ) → Onward word 0 0
reading_begins word = record { digits = refl; reads = refl; small = omega arith }

-- the next byte and the rest
next_digits : (word : List ℕ) (i : ℕ) → i < length word → all_digits (drop i word) ≡ (is_digit (get_or word i 0) && all_digits (drop (i + 1) word))
unfolding all_digits
next_digits word i h = rw (drop-cons word i 0 h, add-one i)

next_reads : (word : List ℕ) (i value : ℕ) → i < length word → read value (drop i word) ≡ read (value * 10 + (get_or word i 0 - 48)) (drop (i + 1) word)
unfolding read
next_reads word i value h = rw (drop-cons word i 0 h, add-one i)

-- reading on does not make a number smaller
read_more : (value : ℕ) (word : List ℕ) → value ≤ read value word
unfolding read
read_more value [] = le_refl value
read_more value (c ∷ cs) = omega (arith, read_more (value * 10 + (c - 48)) cs)

module _ (word : List ℕ) (i value : ℕ) (before : Onward word i value) (inside : i < length word) where
  rest_digits : (is_digit (get_or word i 0) && all_digits (drop (i + 1) word)) ≡ all_digits word
  rest_digits = sym (next_digits word i inside) ∙ before.digits

  rest_reads : read (value * 10 + (get_or word i 0 - 48)) (drop (i + 1) word) ≡ read 0 word
  rest_reads = sym (next_reads word i value inside) ∙ before.reads

  module _ (digit : Bool) (told : digit ≡ is_digit (get_or word i 0)) where
    pub reading_strange : not digit ≡ true → None ≡ number_of word
    reading_strange e =
        word_strange word
        (sym rest_digits ∙ and_false_left (is_digit (get_or word i 0)) (all_digits (drop (i + 1) word)) (sym told ∙ not-true digit e))

    pub reading_goes_on : digit ≡ true → {next : ℕ} → next ≡ value * 10 + (get_or word i 0 - 48) → next < 2 ^ 64 → Onward word (i + 1) next
    reading_goes_on e is room = rw is (record {
      digits = rw (sym told ∙ e) at rest_digits;
      reads = rest_reads;
      small = rw is at room;
    })

  pub reading_large : 2 ^ 64 ≤ value * 10 + (get_or word i 0 - 48) → None ≡ number_of word
  reading_large large = word_large word (omega (arith, rest_reads, read_more (value * 10 + (get_or word i 0 - 48)) (drop (i + 1) word)))

pub reading_ends : (word : List ℕ) (i value : ℕ) → Onward word i value → length word ≤ i → (length word ≡ 0 → ⊥) → length word ≤ DIGITS
    → Some value ≡ number_of word
unfolding all_digits read
reading_ends word i value before past some few =
    let rest : drop i word ≡ [] = drop_of_length-le word past in
    let digits : true ≡ all_digits word = sym (ap all_digits rest) ∙ before.digits in
    let reads : value ≡ read 0 word = sym (ap (read value) rest) ∙ before.reads in
    ap Some reads ∙ sym (word_number word (omega arith) few (sym digits) (omega (arith, before.small)))

-- ---- a number's own decimal

all_digits_lem : (word : List ℕ) → AllDigits word → all_digits word ≡ true
unfolding all_digits is_digit
all_digits_lem [] p = refl
all_digits_lem (c ∷ cs) p =
    and_true (is_digit c) (all_digits cs) (and_true (leb 48 c) (leb c 57) (le-leb 48 c p.0.low) (le-leb c 57 p.0.high)) (all_digits_lem cs p.1)

pub decimal_number : (v : ℕ) → v < 2 ^ 64 → number_of (decimal v) ≡ Some v
decimal_number v h =
    let e : read 0 (decimal v) ≡ v = decimal_read v h in
    word_number (decimal v) (decimal_some v) (decimal_few v) (all_digits_lem (decimal v) (decimal_all v)) (omega arith) ∙ ap Some e
