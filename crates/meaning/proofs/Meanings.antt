-- Of rows that name rows below them `meaning` is the only solution of the row equations; of a well-formed table under a permitted choice
-- it is a model.
use Prim.Native.Nat.{ℕ, ◌≤◌, ◌<◌}
use mathlib.Core.Path.{◌≡◌, refl, sym}
use native.Mathlib.Omega.{arith}
use lib.Dec.{eqb}
use Rattle.basis.proofs.Pick.{pick_case}
use Rattle.basis.proofs.Builds.{grown_solves, solves_only, from_below}
use Rattle.word.proofs.Words.{plus_below, minus_below}
use Rattle.term.specs.Term.{Term, const, var, shift, sum, diff, neg, read, fresh, write}
use Rattle.term.specs.WellFormed.{Fits, Names, WellFormed}
use Rattle.term.proofs.Names.{NamesBelow, names_widen}
use Rattle.term.proofs.WellFormed.{formed_below}
use Rattle.meaning.specs.Meaning.{Choice, Permitted, Meaning, word_of, array_of, meaning_by, meaning}
use Rattle.meaning.proofs.Model.{Bounds, Model}

module _ (M : ℕ) (choice : Choice) where
  -- a row's meaning depends on those of the rows that it names alone
  meaning_by_local : (p q : ℕ → Meaning) (x : ℕ) (t : Term) → Names (λ s y. p y ≡ q y) t → meaning_by M choice p x t ≡ meaning_by M choice q x t
  unfolding meaning_by
  meaning_by_local p q x (const k) n = refl
  meaning_by_local p q x (var name l u) n = refl
  meaning_by_local p q x (shift a k) n = rw n
  meaning_by_local p q x (sum a b k) n = rw (n.0, n.1)
  meaning_by_local p q x (diff a b k) n = rw (n.0, n.1)
  meaning_by_local p q x (neg a k) n = rw n
  meaning_by_local p q x (read a b) n = rw (n.0, n.1)
  meaning_by_local p q x fresh n = refl
  meaning_by_local p q x (write a b c) n = rw (n.0, n.1, n.2)

  module _ (t : ℕ → Term) (low : NamesBelow t) where
    looks_below : (p q : ℕ → Meaning) (x : ℕ) → ((y : ℕ) → y < x → p y ≡ q y) → meaning_by M choice p x (t x) ≡ meaning_by M choice q x (t x)
    looks_below p q x agree = meaning_by_local p q x (t x) (names_widen (t x) (λ s y l. agree y l) (low x))

    pub meaning_eq : (x : ℕ) → meaning M choice t x ≡ meaning_by M choice (meaning M choice t) x (t x)
    unfolding meaning
    meaning_eq = grown_solves (λ of x. meaning_by M choice of x (t x)) looks_below _ _ (λ g x e. refl)

    pub meaning_only : (of : ℕ → Meaning) → ((x : ℕ) → of x ≡ meaning_by M choice of x (t x)) → (x : ℕ) → of x ≡ meaning M choice t x
    meaning_only of rows = solves_only (λ of' x. meaning_by M choice of' x (t x)) looks_below of (meaning M choice t) rows meaning_eq

-- a meaning of words below M, at every index
pub record OfWords (M : ℕ) (m : Meaning) : Type 0 where
  pub value_below_lem : m.value < M
  pub content_below : (i : ℕ) → m.content i < M

module _ (M : ℕ) (choice : Choice) (pos : 0 < M) where
  word_words : (v : ℕ) → v < M → OfWords M (word_of v)
  word_words v below = record { value_below_lem = below; content_below = λ i. pos }

  array_words : (c : ℕ → ℕ) → ((i : ℕ) → c i < M) → OfWords M (array_of c)
  array_words c below = record { value_below_lem = pos; content_below = below }

  -- where the rows that a row names mean words
  words_by : (of : ℕ → Meaning) (x : ℕ) (t : Term) → Fits M t → Bounds choice x t → ((i : ℕ) → t ≡ fresh → choice.array x i < M)
      → Names (λ s y. OfWords M (of y)) t → OfWords M (meaning_by M choice of x t)
  unfolding meaning_by
  words_by of x (const k) fits bounds contents n = word_words k fits
  words_by of x (var name l u) fits bounds contents n = word_words (choice.word x) (omega arith)
  words_by of x (shift a k) fits bounds contents n = word_words _ (plus_below M pos _ _)
  words_by of x (sum a b k) fits bounds contents n = word_words _ (plus_below M pos _ _)
  words_by of x (diff a b k) fits bounds contents n = word_words _ (plus_below M pos _ _)
  words_by of x (neg a k) fits bounds contents n = word_words _ (minus_below M pos _ _)
  words_by of x (read a b) fits bounds contents n = word_words _ (n.0.content_below (of b).value)
  words_by of x fresh fits bounds contents n = array_words (choice.array x) (λ i. contents i refl)
  words_by of x (write a b c) fits bounds contents n =
      array_words _
      (λ i. pick_case (λ v. v < M) (eqb i (of b).value) (λ _. n.2.value_below_lem) (λ _. n.0.content_below i))

-- the bounds of a row, from those of every VAR row
bounds_of : (choice : Choice) (x : ℕ) (t : Term)
    → ((name k h : ℕ) → t ≡ var name k h → (k ≤ choice.word x) × (choice.word x ≤ h)) → Bounds choice x t
bounds_of choice x (const k) h = tt
bounds_of choice x (var name l u) h = h name l u refl
bounds_of choice x (shift a k) h = tt
bounds_of choice x (sum a b k) h = tt
bounds_of choice x (diff a b k) h = tt
bounds_of choice x (neg a k) h = tt
bounds_of choice x (read a b) h = tt
bounds_of choice x fresh h = tt
bounds_of choice x (write a b c) h = tt

module _ (M : ℕ) (pos : 0 < M) (t : ℕ → Term) (formed : WellFormed M t) (choice : Choice) (permitted : Permitted M t choice) where
  low : NamesBelow t
  low = formed_below M t formed

  bounds : (x : ℕ) → Bounds choice x (t x)
  bounds x = bounds_of choice x (t x) (permitted.bounds x)

  -- every meaning is of words
  pub meaning_words : (x : ℕ) → OfWords M (meaning M choice t x)
  meaning_words =
      from_below (λ x. OfWords M (meaning M choice t x))
      (λ x earlier.
      rw (meaning_eq M choice t low x)
      (words_by M choice pos (meaning M choice t) x (t x) (formed.fits x) (bounds x) (permitted.words x)
      (names_widen (t x) (λ s y l. earlier y l) (low x))))

  pub meaning_model : Model M choice t (meaning M choice t)
  meaning_model =
      record {
        pos = pos;
        words = λ x. (meaning_words x).value_below_lem;
        rows = λ x. record { fits = formed.fits x; bounds = bounds x; means = sym (meaning_eq M choice t low x) };
      }
