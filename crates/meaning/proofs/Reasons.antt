-- In a model each reason that is given for two rows is true of their values.
use Prim.Native.Nat.{ℕ, ◌<◌}
use mathlib.Core.Path.{◌≡◌, subst}
use Rattle.word.specs.Word.{plus}
use Rattle.word.proofs.Words.{plus_below, minus_below}
use Rattle.range.specs.declared.Range.{Range}
use Rattle.range.specs.Range.{Within}
use Rattle.range.proofs.Laws.{disjoint_shares_none}
use Rattle.term.specs.declared.Reason.{Reason}
use Rattle.term.specs.declared.Reason.TheVariants.{SamePlace, Offsets, Separate, Undecided}
use Rattle.term.specs.declared.Spans.{Spans}
use Rattle.term.specs.Term.{Term}
use Rattle.term.specs.Base.{Base, Nothing, One, Sum, Difference, Negative, base, offset}
use Rattle.term.specs.Walk.{Walk}
use Rattle.term.specs.Reason.{reason, known_by, index_of, meets, met}
use Rattle.term.proofs.Reasons.{Grounds, related_reason, reason_grounds}
use Rattle.term.proofs.Follows.{Each, met_each}
use Rattle.meaning.specs.Meaning.{Choice, Meaning}
use Rattle.meaning.proofs.Model.{Model, Contained}
use Rattle.meaning.proofs.Value.{total, base_val, offset_below}
use Rattle.meaning.proofs.Relations.{Says, related_says}

-- v and w are one word plus p and plus q, two different offsets; so they differ
pub record OnOneBase (M p q v w : ℕ) : Type 0 where
  pub shared : ℕ
  pub shared_word : shared < M
  pub first : v ≡ plus M shared p
  pub second : w ≡ plus M shared q
  pub words : (p < M) × (q < M)
  pub offsets_differ : p ≡ q → ⊥
  pub differ : v ≡ w → ⊥

-- v and w lie in two ranges that share no word; so they differ
pub record InSeparate (s : Spans) (v w : ℕ) : Type 0 where
  pub first : Within v s.store
  pub second : Within w s.read
  pub none_shared : (u : ℕ) → Within u s.store → Within u s.read → ⊥
  pub differ : v ≡ w → ⊥

-- what a reason says of two values
abbrev pub Explains : ℕ → Reason → ℕ → ℕ → Type 0
Explains M SamePlace v w = v ≡ w
Explains M (Offsets p q) v w = OnOneBase M p q v w
Explains M (Separate s) v w = InSeparate s v w
Explains M Undecided v w = Unit {0}

module _ (M : ℕ) (choice : Choice) (f : ℕ → Term) (of : ℕ → Meaning) (model : Model M choice f of) where
  total_below : (d : Base) → total M of d < M
  unfolding total
  total_below Nothing = model.pos
  total_below (One x) = model.words x
  total_below (Sum x y) = plus_below M model.pos _ _
  total_below (Difference x y) = minus_below M model.pos _ _
  total_below (Negative x) = minus_below M model.pos _ _

  module _ (g : ℕ → Range) (held : Contained of g) where
    explained : (x y : ℕ) (why : Reason) → Grounds f g x y why → Says (known_by why) (of x).value (of y).value
        → Explains M why (of x).value (of y).value
    unfolding known_by
    explained x y SamePlace h s = s
    explained x y (Offsets p q) h s =
        let d : base f x ≡ base f y = h.0 in
        let k : p ≡ offset f x = h.1 in
        let l : q ≡ offset f y = h.2 in
        record {
          shared = total M of (base f x);
          shared_word = total_below (base f x);
          first = cc (base_val M choice f of model x);
          second = cc (base_val M choice f of model y);
          words = (rw k (offset_below M choice f of model x), rw l (offset_below M choice f of model y));
          offsets_differ = h.3;
          differ = s;
        }
    explained x y (Separate r) h s =
        record {
          first = rw h.1 (held x);
          second = rw h.2 (held y);
          none_shared = λ u. disjoint_shares_none r.store r.read u h.3;
          differ = s;
        }
    explained x y Undecided h s = tt

    pub reason_explains : (x y : ℕ) → Explains M (reason f g x y) (of x).value (of y).value
    reason_explains x y =
        explained x y (reason f g x y) (reason_grounds f g x y)
        (subst (λ r. Says r (of x).value (of y).value) (related_reason f g x y) (related_says M choice f of model g held x y))

    -- and so the reason of each store that a walk lists
    pub step_explains : (i : ℕ) (w : Walk) → Each (λ s. Explains M s.why (of s.index).value (of i).value) (met f g i w)
    unfolding meets
    step_explains i w = met_each f g i _ (λ m. reason_explains (index_of (f m)) i) w
