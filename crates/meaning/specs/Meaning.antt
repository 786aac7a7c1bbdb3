-- What rows mean, by the SMT-LIB theories FixedSizeBitVectors and ArraysEx. M is 2 ^ w, and a word is a number below M.
use Rattle.std.specs.Prelude.{ℕ, ◌≤◌, ◌<◌, ◌≡◌, cond, eqb}
use Rattle.basis.specs.Build.{grown}
use Rattle.word.specs.Word.{plus, minus}
use Rattle.term.specs.Term.{Term, const, var, shift, sum, diff, neg, read, fresh, write, stated_by}

-- a choice: a word for each VAR row, and a content, a word at each index, for each FRESH row
pub record Choice : Type 0 where
  pub word : ℕ → ℕ
  pub array : ℕ → ℕ → ℕ

-- the choice keeps to the bounds of every VAR row of the table t, every content is of words, and one name is given one value (document 02, A2)
pub record Permitted (M : ℕ) (t : ℕ → Term) (choice : Choice) : Type 0 where
  pub bounds : (x name k h : ℕ) → t x ≡ var name k h → (k ≤ choice.word x) × (choice.word x ≤ h)
  pub words : (x i : ℕ) → t x ≡ fresh → choice.array x i < M
  pub one_value : (x y : ℕ) → (stated_by (t x) ≡ 0 → ⊥) → stated_by (t x) ≡ stated_by (t y) → choice.word x ≡ choice.word y

-- what a row means: a word row its value, an array row its content
pub record Meaning : Type 0 where
  pub value : ℕ
  pub content : ℕ → ℕ

abbrev pub word_of : ℕ → Meaning
word_of v = record { value = v; content = λ i. 0 }

abbrev pub array_of : (ℕ → ℕ) → Meaning
array_of c = record { value = 0; content = c }

-- the meaning of row x, which is the given term, from those of the rows that it names
unfoldable pub meaning_by : ℕ → Choice → (ℕ → Meaning) → ℕ → Term → Meaning
meaning_by M choice of x (const k) = word_of k
meaning_by M choice of x (var name k h) = word_of (choice.word x)
meaning_by M choice of x (shift a k) = word_of (plus M (of a).value k)
meaning_by M choice of x (sum a b k) = word_of (plus M (plus M (of a).value (of b).value) k)
meaning_by M choice of x (diff a b k) = word_of (plus M (minus M (of a).value (of b).value) k)
meaning_by M choice of x (neg a k) = word_of (minus M k (of a).value)
meaning_by M choice of x (read a b) = word_of ((of a).content (of b).value)
meaning_by M choice of x fresh = array_of (choice.array x)
meaning_by M choice of x (write a b c) = array_of (λ i. cond (eqb i (of b).value) (of c).value ((of a).content i))

-- the meaning of every row of the table t
unfoldable pub meaning : ℕ → Choice → (ℕ → Term) → ℕ → Meaning
meaning M choice t = grown (λ of x. meaning_by M choice of x (t x)) (λ x. word_of 0)

abbrev pub value : ℕ → Choice → (ℕ → Term) → ℕ → ℕ
value M choice t x = (meaning M choice t x).value

abbrev pub content : ℕ → Choice → (ℕ → Term) → ℕ → ℕ → ℕ
content M choice t x = (meaning M choice t x).content
