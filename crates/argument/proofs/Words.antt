-- Two words compared byte by byte, as the code goes, and that the same word means an equal one.
use Prim.Native.Nat.{ℕ, suc}
use mathlib.Core.Path.{◌≡◌, refl, sym, ap, ap₂}
use mathlib.Core.Bool.{true, false, false≢true}
use mathlib.Core.List.{List, [], ◌∷◌}
use lib.Dec.{eqb}
use lib.Pointwise.{pointwise}
use lib.ListN.{length}
use borrow.Author.Tests.{eqb-true, eq-eqb}
use Rattle.basis.proofs.Pick.{and_true, and_false_right, and_left, and_right}
use Rattle.argument.specs.Argument.{same_word}

-- ---- what the definition says

pub same_is : (word other : List ℕ) → same_word word other ≡ true → word ≡ other
unfolding same_word
same_is [] [] e = refl
same_is [] (d ∷ ds) e = absurd (false≢true e)
same_is (c ∷ cs) [] e = absurd (false≢true e)
same_is (c ∷ cs) (d ∷ ds) e =
    ap₂ ◌∷◌ (eqb-true c d (and_left (eqb c d) (same_word cs ds) e)) (same_is cs ds (and_right (eqb c d) (same_word cs ds) e))

pub is_same : (word : List ℕ) → same_word word word ≡ true
unfolding same_word
is_same [] = refl
is_same (c ∷ cs) = and_true (eqb c c) (same_word cs cs) (eq-eqb c c refl) (is_same cs)

-- ---- byte by byte

-- as the library compares two lists
pub pointwise_same : (word other : List ℕ) → pointwise eqb word other ≡ same_word word other
unfolding same_word
pointwise_same [] [] = refl
pointwise_same [] (d ∷ ds) = refl
pointwise_same (c ∷ cs) [] = refl
pointwise_same (c ∷ cs) (d ∷ ds) = rw (pointwise_same cs ds)

pub other_length : (word other : List ℕ) → (length word ≡ length other → ⊥) → false ≡ same_word word other
unfolding same_word
other_length [] [] differ = absurd (differ refl)
other_length [] (d ∷ ds) differ = refl
other_length (c ∷ cs) [] differ = refl
other_length (c ∷ cs) (d ∷ ds) differ =
    sym (and_false_right (eqb c d) (same_word cs ds) (sym (other_length cs ds (λ e. differ (ap suc e)))))
