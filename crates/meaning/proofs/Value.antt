-- A word row's value is that of its base plus its offset; and a row that is written with a base and an offset has that value.
use Prim.Native.Nat.{ℕ, ◌<◌}
use mathlib.Core.Path.{◌≡◌, refl, sym, ap, ◌∙◌}
use native.Mathlib.Omega.{arith}
use Rattle.word.specs.Word.{plus, minus}
use Rattle.word.proofs.Words.{differences, same_difference, plus_comm, plus_zero}
use Rattle.term.specs.Term.{Term, const, var, shift, sum, diff, neg, read, fresh, write}
use Rattle.term.specs.WellFormed.{Fits}
use Rattle.term.specs.Base.{Base, Nothing, One, Sum, Difference, Negative, base_of, offset_of, written, base, offset}
use Rattle.meaning.specs.Meaning.{Choice, Meaning, word_of, meaning_by}
use Rattle.meaning.proofs.Model.{Holds, Model}

-- the value of a base, where the rows mean `of`
unfoldable pub total : ℕ → (ℕ → Meaning) → Base → ℕ
total M of Nothing = 0
total M of (One x) = (of x).value
total M of (Sum x y) = plus M (of x).value (of y).value
total M of (Difference x y) = minus M (of x).value (of y).value
total M of (Negative x) = minus M 0 (of x).value

pub valued : {m n : Meaning} → m ≡ n → n.value ≡ m.value
valued e = ap (λ (m : Meaning). m.value) (sym e)

module _ (M : ℕ) (pos : 0 < M) where
  zero_plus : (k : ℕ) → k < M → plus M 0 k ≡ k
  zero_plus k below = plus_comm M pos 0 k ∙ plus_zero M pos k below

  -- a difference is a sum with the negated word
  pub minus_negated : (k v : ℕ) → minus M k v ≡ plus M k (minus M 0 v)
  minus_negated k v = simp differences (same_difference M pos _ _ _ _ (omega arith))

  pub negative_plus : (k v : ℕ) → minus M k v ≡ plus M (minus M 0 v) k
  negative_plus k v = minus_negated k v ∙ plus_comm M pos k (minus M 0 v)

module _ (M : ℕ) (choice : Choice) (of : ℕ → Meaning) (pos : 0 < M) where
  value_by : (x : ℕ) (t : Term) → (of x).value < M → Holds M choice of x t (of x) → (of x).value ≡ plus M (total M of (base_of x t)) (offset_of t)
  unfolding total base_of offset_of meaning_by
  value_by x (const k) w h = valued h.means ∙ sym (zero_plus M pos k h.fits)
  value_by x (var name l u) w h = sym (plus_zero M pos (of x).value w)
  value_by x (shift a k) w h = valued h.means
  value_by x (sum a b k) w h = valued h.means
  value_by x (diff a b k) w h = valued h.means
  value_by x (neg a k) w h = valued h.means ∙ negative_plus M pos k (of a).value
  value_by x (read a b) w h = sym (plus_zero M pos (of x).value w)
  value_by x fresh w h = sym (plus_zero M pos (of x).value w)
  value_by x (write a b c) w h = sym (plus_zero M pos (of x).value w)

  -- a row that is written with a base and an offset has their value
  pub written_holds : (x : ℕ) (d : Base) (k : ℕ) → k < M → Holds M choice of x (written d k) (word_of (plus M (total M of d) k))
  unfolding total written meaning_by
  written_holds x Nothing k below = record { fits = below; bounds = tt; means = ap word_of (sym (zero_plus M pos k below)) }
  written_holds x (One a) k below = record { fits = below; bounds = tt; means = refl }
  written_holds x (Sum a b) k below = record { fits = below; bounds = tt; means = refl }
  written_holds x (Difference a b) k below = record { fits = below; bounds = tt; means = refl }
  written_holds x (Negative a) k below = record { fits = below; bounds = tt; means = ap word_of (negative_plus M pos k (of a).value) }

-- the value of a row is that of its base plus its offset
pub base_val : (M : ℕ) (choice : Choice) (f : ℕ → Term) (of : ℕ → Meaning) → Model M choice f of
    → (x : ℕ) → (of x).value ≡ plus M (total M of (base f x)) (offset f x)
unfolding base offset
base_val M choice f of model x = value_by M choice of model.pos x (f x) (model.words x) (model.rows x)

-- and an offset is a word
pub offset_below : (M : ℕ) (choice : Choice) (f : ℕ → Term) (of : ℕ → Meaning) → Model M choice f of → (x : ℕ) → offset f x < M
unfolding offset offset_of
offset_below M choice f of model x = by (f x) (model.rows x).fits
  where
    by : (t : Term) → Fits M t → offset_of t < M
    by (const k) fits = fits
    by (var name l u) fits = model.pos
    by (shift a k) fits = fits
    by (sum a b k) fits = fits
    by (diff a b k) fits = fits
    by (neg a k) fits = fits
    by (read a b) fits = model.pos
    by fresh fits = model.pos
    by (write a b c) fits = model.pos
