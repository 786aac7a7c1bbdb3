-- In a model a row's range holds its value, and what is said of two rows is so.
use Prim.Native.Nat.{ℕ, zero, suc, ◌<◌}
use mathlib.Core.Path.{◌≡◌, sym, ap, ◌∙◌}
use mathlib.Core.Bool.{◌&&◌, ◌||◌, true≢false}
use lib.Dec.{eqb}
use borrow.Author.Tests.{eqb-true, eqb-false}
use Rattle.basis.proofs.Pick.{pick_case, and_left, and_right, and_case, or_case}
use Rattle.word.specs.Word.{plus, minus}
use Rattle.word.proofs.Words.{plus_below, minus_below, plus_comm, minus_of_plus}
use Rattle.range.specs.declared.Range.{Range}
use Rattle.range.specs.Range.{point, full, negation, Within, Proper, disjoint}
use Rattle.range.specs.Range as range
use Rattle.range.proofs.Spans.{point_within, span_within, full_within, point_proper, span_proper, full_proper}
use Rattle.range.proofs.Laws.{sum_within, negation_within, sum_proper, negation_proper, disjoint_shares_none}
use Rattle.term.specs.Term.{Term, const, var, shift, sum, diff, neg, read, fresh, write}
use Rattle.term.specs.declared.Relation.{Relation}
use Rattle.term.specs.declared.Relation.TheVariants.{Same, Apart, Unknown}
use Rattle.term.specs.Relation.{range_by, range_down, range_of, related}
use Rattle.term.specs.Base.{base, offset, same_base}
use Rattle.term.proofs.Bases.{same_base_lem}
use Rattle.meaning.specs.Meaning.{Choice, Meaning, meaning_by}
use Rattle.meaning.proofs.Model.{Holds, Model, Contained}
use Rattle.meaning.proofs.Value.{total, base_val, offset_below, valued, minus_negated}

-- a range of words that has v
record Held (M v : ℕ) (a : Range) : Type 0 where
  pub within : Within v a
  pub proper : Proper M a

module _ (M : ℕ) (choice : Choice) (of : ℕ → Meaning) (pos : 0 < M) (words : (x : ℕ) → (of x).value < M) where
  point_held : (k : ℕ) → k < M → Held M k (point k)
  point_held k l = record { within = point_within k; proper = point_proper M k l }

  full_held : (x : ℕ) → Held M (of x).value (full M)
  full_held x = record { within = full_within M (of x).value (words x); proper = full_proper M pos }

  plus_held : {v w : ℕ} {a b : Range} → v < M → w < M → Held M v a → Held M w b → Held M (plus M v w) (range.sum M a b)
  plus_held {v} {w} {a} {b} l m h k =
      record {
        within = sum_within M a b h.proper k.proper v w l m h.within k.within;
        proper = sum_proper M a b h.proper k.proper;
      }

  negated_held : (g : ℕ → Range) → ((x : ℕ) → Held M (of x).value (g x)) → (a : ℕ) → Held M (minus M 0 (of a).value) (negation M (g a))
  negated_held g held a =
      record {
        within = negation_within M (g a) (held a).proper (of a).value (words a) (held a).within;
        proper = negation_proper M (g a) (held a).proper;
      }

  -- from the ranges of the rows that a row names
  range_by_in : (g : ℕ → Range) → ((x : ℕ) → Held M (of x).value (g x)) → (x : ℕ) (t : Term) → Holds M choice of x t (of x) → Held M (of x).value (range_by M g t)
  unfolding range_by meaning_by
  range_by_in g held x (const k) h = rw (valued h.means) (point_held k h.fits)
  range_by_in g held x (var name l u) h =
      rw (valued h.means)
      (record {
        within = span_within l u (choice.word x) h.bounds.0 h.bounds.1;
        proper = span_proper M l u h.fits.0 h.fits.1;
      })
  range_by_in g held x (shift a k) h =
      rw (valued h.means) (plus_held (words a) h.fits (held a) (point_held k h.fits))
  range_by_in g held x (sum a b k) h =
      rw (valued h.means)
      (plus_held (plus_below M pos _ _) h.fits (plus_held (words a) (words b) (held a) (held b)) (point_held k h.fits))
  range_by_in g held x (diff a b k) h =
      rw (valued h.means, minus_negated M pos (of a).value (of b).value)
      (plus_held (plus_below M pos _ _) h.fits
      (plus_held (words a) (minus_below M pos _ _) (held a) (negated_held g held b)) (point_held k h.fits))
  range_by_in g held x (neg a k) h =
      rw (valued h.means, minus_negated M pos k (of a).value)
      (plus_held h.fits (minus_below M pos _ _) (point_held k h.fits) (negated_held g held a))
  range_by_in g held x (read a b) h = full_held x
  range_by_in g held x fresh h = full_held x
  range_by_in g held x (write a b c) h = full_held x

-- what an answer says of two values
abbrev pub Says : Relation → ℕ → ℕ → Type 0
Says Same v w = v ≡ w
Says Apart v w = v ≡ w → ⊥
Says Unknown v w = Unit {0}

module _ (M : ℕ) (choice : Choice) (f : ℕ → Term) (of : ℕ → Meaning) (model : Model M choice f of) where
  -- however far down the references are followed
  range_down_in : (deep x : ℕ) → Held M (of x).value (range_down M f deep x)
  unfolding range_down
  range_down_in zero x = full_held M choice of model.pos model.words x
  range_down_in (suc deep) x =
      range_by_in M choice of model.pos model.words (range_down M f deep) (range_down_in deep) x (f x) (model.rows x)

  pub range_in : Contained of (range_of M f)
  unfolding range_of
  range_in x = (range_down_in (suc x) x).within

  pub range_fine : (x : ℕ) → Proper M (range_of M f x)
  unfolding range_of
  range_fine x = (range_down_in (suc x) x).proper

  -- base and offset give the value, and base and value the offset
  offset_is : (x : ℕ) → offset f x ≡ minus M (of x).value (total M of (base f x))
  offset_is x =
      sym (minus_of_plus M model.pos (offset f x) (total M of (base f x)) (offset_below M choice f of model x)) ∙
      ap (λ (v : ℕ). minus M v (total M of (base f x))) (plus_comm M model.pos _ _ ∙ sym (base_val M choice f of model x))

  module _ (g : ℕ → Range) (held : Contained of g) where
    -- what is said of two rows is so
    pub related_says : (x y : ℕ) → Says (related f g x y) (of x).value (of y).value
    unfolding related
    related_says x y =
        pick_case (λ r. Says r (of x).value (of y).value) (same_base (base f x) (base f y) && eqb (offset f x) (offset f y))
        (λ t.
        let d : base f x ≡ base f y = same_base_lem _ _ (and_left (same_base (base f x) (base f y)) _ t) in
        let k : offset f x ≡ offset f y = eqb-true _ _ (and_right (same_base (base f x) (base f y)) _ t) in
        cc (base_val M choice f of model x, base_val M choice f of model y))
        (λ t.
        pick_case (λ r. Says r (of x).value (of y).value) (same_base (base f x) (base f y) || disjoint (g x) (g y))
        (λ u.
        or_case (same_base (base f x) (base f y)) (disjoint (g x) (g y)) u
        (λ s e.
        let d : base f x ≡ base f y = same_base_lem _ _ s in
        let k : offset f x ≡ offset f y = cc (offset_is x, offset_is y) in
        and_case (same_base (base f x) (base f y)) (eqb (offset f x) (offset f y)) t
        (λ n. true≢false (sym s ∙ n))
        (λ n. eqb-false (offset f x) (offset f y) n k))
        (λ s e. disjoint_shares_none (g x) (g y) (of x).value s (held x) (rw e (held y))))
        (λ _. tt))
