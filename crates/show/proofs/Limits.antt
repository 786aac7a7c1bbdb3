-- The limit that the arguments give, by the tests of the code; and an argument longer than its buffer, which comes as an empty one and reads the same.
use Prim.Native.Nat.{ℕ, ◌≤◌, ◌<◌}
use native.Mathlib.Omega.{arith}
use mathlib.Core.Path.{◌≡◌, refl, sym, ◌∙◌}
use mathlib.Core.Bool.{Bool, true, false, cond, not}
use mathlib.Core.List.{List, []}
use lib.Dec.{leb}
use lib.ListN.{length}
use borrow.Author.Tests.{eq-eqb, ne_eqb, le-leb, lt-leb, leb-false, not-true, not-false}
use Rattle.basis.proofs.Pick.{test_case}
use Rattle.text.specs.Text.{ascii}
use Rattle.std.specs.Prelude.{Option, Some, None}
use Rattle.argument.specs.Argument.{same_word, number_of, DIGITS}
use Rattle.argument.proofs.Words.{other_length}
use Rattle.argument.proofs.Numbers.{word_empty, word_long}
use Rattle.judge.specs.Run.{LIMIT}
use Rattle.show.specs.Limit.{within, limit_from}

-- ---- a number

module _ (given : Option ℕ) (limit : ℕ) (told : given ≡ Some limit) where
  pub limit_above : LIMIT < limit → None ≡ within given
  unfolding within
  limit_above high = rw (told, lt-leb limit LIMIT high)

  pub limit_within : limit ≤ LIMIT → Some limit ≡ within given
  unfolding within
  limit_within low = rw (told, le-leb limit LIMIT low)

pub no_limit : (given : Option ℕ) → given ≡ None → None ≡ within given
unfolding within
no_limit given told = rw told

-- ---- the arguments

module _ (count : ℕ) (word value : List ℕ) where
  pub none_given : count ≡ 1 → Some LIMIT ≡ limit_from count word value
  unfolding limit_from
  none_given e = rw (eq-eqb count 1 e)

  module _ (some : count ≡ 1 → ⊥) where
    pub miscounted : (count ≡ 3 → ⊥) → None ≡ limit_from count word value
    unfolding limit_from
    miscounted other = rw (ne_eqb count 1 some, ne_eqb count 3 other)

    module _ (two : count ≡ 3) (named : Bool) (told : named ≡ same_word word (ascii "--limit")) where
      pub misnamed : not named ≡ true → None ≡ limit_from count word value
      unfolding limit_from
      misnamed e = rw (ne_eqb count 1 some, eq-eqb count 3 two, ← told, not-true named e)

      pub limit_given : not named ≡ false → (given : Option ℕ) → given ≡ number_of value → (r : Option ℕ) → r ≡ within given
          → r ≡ limit_from count word value
      unfolding limit_from
      limit_given e given is r done = rw (ne_eqb count 1 some, eq-eqb count 3 two, ← told, not-false named e, ← is) done

-- ---- an argument and its buffer: 7 bytes for `--limit`, and the digits of a number

-- what comes of a word in a buffer of `room` bytes
unfoldable pub came : ℕ → List ℕ → List ℕ
came room word = cond (leb (length word) room) word []

came_named : (word : List ℕ) → same_word (came 7 word) (ascii "--limit") ≡ same_word word (ascii "--limit")
unfolding came same_word
came_named word =
    test_case (leb (length word) 7)
    (λ (fits : leb (length word) 7 ≡ true). rw fits)
    (λ (long : leb (length word) 7 ≡ false).
    let other : false ≡ same_word word (ascii "--limit") = other_length word _ (λ e. omega (arith, e, leb-false (length word) 7 long)) in
    rw long other)

came_number : (value : List ℕ) → number_of (came DIGITS value) ≡ number_of value
unfolding came
came_number value =
    test_case (leb (length value) DIGITS)
    (λ (fits : leb (length value) DIGITS ≡ true). rw fits)
    (λ (long : leb (length value) DIGITS ≡ false).
    rw long (sym (word_empty [] refl) ∙ word_long value (leb-false (length value) DIGITS long)))

pub cut_reads_alike : (count : ℕ) (word value : List ℕ) → limit_from count (came 7 word) (came DIGITS value) ≡ limit_from count word value
unfolding limit_from
cut_reads_alike count word value = rw (came_named word, came_number value)
