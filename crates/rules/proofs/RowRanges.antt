-- What the store keeps for a row, by its kind, and what its parts ask. Assumes nothing.
use Prim.Native.Nat.{ℕ, ◌^◌, ◌<◌}
use mathlib.Core.Path.{◌≡◌, refl, ◌∙◌}
use mathlib.Core.Bool.{Bool, false, true≢false}
use mathlib.Core.List.{List}
use Rattle.range.specs.declared.Range.{Range}
use Rattle.range.specs.Range.{span, point, full, negation, Proper}
use Rattle.range.specs.Range as range
use Rattle.range.specs.Store.{kept}
use Rattle.range.proofs.Spans.{point_proper, span_proper, full_proper}
use Rattle.range.proofs.Laws.{sum_proper, negation_proper}
use Rattle.row.specs.declared.Row.{Row}
use Rattle.row.specs.Kinds.{StatesNone}
use Rattle.row.specs.Names.{CONST, VAR, SHIFT, SUM, DIFF, NEG, READ, FRESH, WRITE}
use Rattle.table.specs.Refusals.{MOST}
use Rattle.term.specs.Term.{Term, const, var, shift, sum, diff, neg, read, fresh, write, term_of, is_array}
use Rattle.term.specs.WellFormed.{Fits, Names}
use Rattle.term.specs.Bytes.{look}
use Rattle.term.specs.Relation.{range_by}
use Rattle.term.proofs.Names.{names_widen, names_both}
use Rattle.walks.specs.Ready.{NamesBelow, SortsIn}
use Rattle.walks.proofs.Terms.{
  term_const,
  term_var,
  term_shift,
  term_sum,
  term_diff,
  term_neg,
  term_read,
  term_fresh,
  term_write,
  term_none,
}
use Rattle.rules.specs.Ready.{Ranged, Moving, RangedOne, RangedTwo, Ranging}
use Rattle.rules.specs.Written.{entry}

-- ---- what is a range of words

module _ (M : ℕ) (a : Range) where
  pub point_known : (k : ℕ) → a ≡ point k → k < M → Proper M a
  point_known k e h = rw e (point_proper M k h)

  pub kept_known : (S : List Range) (x : ℕ) → Proper M (kept S x) → a ≡ kept S x → Proper M a
  kept_known S x p e = rw e p

  pub sum_known : (b c : Range) → Proper M b → Proper M c → a ≡ range.sum M b c → Proper M a
  sum_known b c p q e = rw e (sum_proper M b c p q)

  pub negation_known : (b : Range) → Proper M b → a ≡ negation M b → Proper M a
  negation_known b p e = rw e (negation_proper M b p)

-- u + negated v, before k is added
pub difference_moves : (S : List Range) (w r a b k : ℕ) (u v n s : Range) → RangedTwo S w r a b k
    → u ≡ kept S a → v ≡ kept S b → n ≡ negation (2 ^ w) v → s ≡ range.sum (2 ^ w) u n → Moving w s k
difference_moves S w r a b k u v n s given eu ev en es =
    let negated = negation_known (2 ^ w) n v (kept_known (2 ^ w) v S b given.right_proper ev) en in
    record {
      proper = sum_known (2 ^ w) s u n (kept_known (2 ^ w) u S a given.left_proper eu) negated es;
      word = given.word;
    }

-- the words that a term names have ranges of words
abbrev pub WordsProper : ℕ → (ℕ → Range) → Term → Type 0
WordsProper M g t = Names (λ array y. array ≡ false → Proper M (g y)) t

module _ (M : ℕ) (g : ℕ → Range) where
  range_proper : 0 < M → (t : Term) → Fits M t → WordsProper M g t → Proper M (range_by M g t)
  unfolding range_by
  range_proper pos (const k) f n = point_proper M k f
  range_proper pos (var name k h) f n = span_proper M k h f.0 f.1
  range_proper pos (shift a k) f n = sum_proper M (g a) (point k) (n refl) (point_proper M k f)
  range_proper pos (sum a b k) f n =
      sum_proper M (range.sum M (g a) (g b)) (point k)
      (sum_proper M (g a) (g b) (n.0 refl) (n.1 refl))
      (point_proper M k f)
  range_proper pos (diff a b k) f n =
      sum_proper M (range.sum M (g a) (negation M (g b))) (point k)
      (sum_proper M (g a) (negation M (g b)) (n.0 refl) (negation_proper M (g b) (n.1 refl)))
      (point_proper M k f)
  range_proper pos (neg a k) f n = sum_proper M (point k) (negation M (g a)) (point_proper M k f) (negation_proper M (g a) (n refl))
  range_proper pos (read a b) f n = full_proper M pos
  range_proper pos fresh f n = full_proper M pos
  range_proper pos (write a b c) f n = full_proper M pos

  -- what is kept for a word is its range
  pub entry_range : (t : Term) → is_array t ≡ false → entry M g t ≡ range_by M g t
  unfolding entry is_array
  entry_range (const k) e = refl
  entry_range (var name k h) e = refl
  entry_range (shift a k) e = refl
  entry_range (sum a b k) e = refl
  entry_range (diff a b k) e = refl
  entry_range (neg a k) e = refl
  entry_range (read a b) e = refl
  entry_range fresh e = absurd (true≢false e)
  entry_range (write a b c) e = absurd (true≢false e)

  pub entry_proper : 0 < M → (t : Term) → is_array t ≡ false → Fits M t → WordsProper M g t → Proper M (entry M g t)
  entry_proper pos t e f n = rw (entry_range t e) (range_proper pos t f n)

  -- and for an array what a walk asks
  pub entry_store : (a b c : ℕ) → entry M g (write a b c) ≡ span a b
  unfolding entry
  entry_store a b c = refl

  pub entry_end : entry M g fresh ≡ point MOST
  unfolding entry
  entry_end = refl

pub words_proper : (M : ℕ) (R : List ℕ) (S : List Range) (r : ℕ) → Ranged M R S r
    → (t : Term) → NamesBelow r t → SortsIn R t → WordsProper M (kept S) t
words_proper M R S r ranges t n m =
    names_widen {W = λ s y. s ≡ false → Proper M (kept S y)} t
    (λ (s : Bool) (y : ℕ) (h : (y < r) × (is_array (look R y) ≡ s)) (e : s ≡ false). ranges.proper y h.0 (h.1 ∙ e))
    (names_both (λ s y. y < r) (λ s y. is_array (look R y) ≡ s) t n m)

-- ---- what the parts ask

module _ (S : List Range) (w r : ℕ) (x : Row) (given : Ranging S w r (term_of x)) where
  pub asks_shift : x.kind ≡ SHIFT → RangedOne S w r x.a x.k
  asks_shift e =
      let fits : Fits (2 ^ w) (shift x.a x.k) = rw (term_shift x e) at given.fits in
      let names : NamesBelow r (shift x.a x.k) = rw (term_shift x e) at given.names in
      let words : WordsProper (2 ^ w) (kept S) (shift x.a x.k) = rw (term_shift x e) at given.words in
      record { few = given.few; below = names; proper = words refl; word = fits }

  pub asks_neg : x.kind ≡ NEG → RangedOne S w r x.a x.k
  asks_neg e =
      let fits : Fits (2 ^ w) (neg x.a x.k) = rw (term_neg x e) at given.fits in
      let names : NamesBelow r (neg x.a x.k) = rw (term_neg x e) at given.names in
      let words : WordsProper (2 ^ w) (kept S) (neg x.a x.k) = rw (term_neg x e) at given.words in
      record { few = given.few; below = names; proper = words refl; word = fits }

  pub asks_sum : x.kind ≡ SUM → RangedTwo S w r x.a x.b x.k
  asks_sum e =
      let fits : Fits (2 ^ w) (sum x.a x.b x.k) = rw (term_sum x e) at given.fits in
      let names : NamesBelow r (sum x.a x.b x.k) = rw (term_sum x e) at given.names in
      let words : WordsProper (2 ^ w) (kept S) (sum x.a x.b x.k) = rw (term_sum x e) at given.words in
      record {
        few = given.few;
        left = names.0;
        right = names.1;
        left_proper = words.0 refl;
        right_proper = words.1 refl;
        word = fits;
      }

  pub asks_diff : x.kind ≡ DIFF → RangedTwo S w r x.a x.b x.k
  asks_diff e =
      let fits : Fits (2 ^ w) (diff x.a x.b x.k) = rw (term_diff x e) at given.fits in
      let names : NamesBelow r (diff x.a x.b x.k) = rw (term_diff x e) at given.names in
      let words : WordsProper (2 ^ w) (kept S) (diff x.a x.b x.k) = rw (term_diff x e) at given.words in
      record {
        few = given.few;
        left = names.0;
        right = names.1;
        left_proper = words.0 refl;
        right_proper = words.1 refl;
        word = fits;
      }

-- ---- the ways out of the code

module _ (M : ℕ) (g : ℕ → Range) (x : Row) (a : Range) where
  pub entry_const : x.kind ≡ CONST → a ≡ point x.k → a ≡ entry M g (term_of x)
  unfolding entry range_by
  entry_const e q = rw (term_const x e) q

  pub entry_var : x.kind ≡ VAR → a ≡ span x.k x.h → a ≡ entry M g (term_of x)
  unfolding entry range_by
  entry_var e q = rw (term_var x e) q

  pub entry_shift : x.kind ≡ SHIFT → a ≡ range.sum M (g x.a) (point x.k) → a ≡ entry M g (term_of x)
  unfolding entry range_by
  entry_shift e q = rw (term_shift x e) q

  pub entry_sum : x.kind ≡ SUM → a ≡ range.sum M (range.sum M (g x.a) (g x.b)) (point x.k) → a ≡ entry M g (term_of x)
  unfolding entry range_by
  entry_sum e q = rw (term_sum x e) q

  pub entry_diff : x.kind ≡ DIFF → a ≡ range.sum M (range.sum M (g x.a) (negation M (g x.b))) (point x.k) → a ≡ entry M g (term_of x)
  unfolding entry range_by
  entry_diff e q = rw (term_diff x e) q

  pub entry_neg : x.kind ≡ NEG → a ≡ range.sum M (point x.k) (negation M (g x.a)) → a ≡ entry M g (term_of x)
  unfolding entry range_by
  entry_neg e q = rw (term_neg x e) q

  pub entry_read : x.kind ≡ READ → a ≡ full M → a ≡ entry M g (term_of x)
  unfolding entry range_by
  entry_read e q = rw (term_read x e) q

  pub entry_fresh : x.kind ≡ FRESH → a ≡ point MOST → a ≡ entry M g (term_of x)
  unfolding entry range_by
  entry_fresh e q = rw (term_fresh x e) q

  pub entry_write : x.kind ≡ WRITE → a ≡ span x.a x.b → a ≡ entry M g (term_of x)
  unfolding entry range_by
  entry_write e q = rw (term_write x e) q

  pub entry_none : StatesNone x.kind → a ≡ point 0 → a ≡ entry M g (term_of x)
  unfolding entry range_by
  entry_none n q = rw (term_none x n) q
