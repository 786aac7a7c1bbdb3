-- The rules of READ and WRITE keep what a row means: the cell that a walk reaches is the one wanted, and a store that is skipped
-- cannot be seen.
use Prim.Native.Nat.{ℕ, zero, suc}
use mathlib.Core.Path.{◌≡◌, refl, sym, ap, ◌∙◌, subst, fun_ext}
use mathlib.Core.Bool.{false, cond}
use lib.Dec.{eqb}
use borrow.Author.Tests.{eqb-true, eqb-false, eq-eqb, ne_eqb}
use Rattle.basis.proofs.Pick.{pick_case, pick_true, pick_false, pick_alike}
use Rattle.word.specs.Word.{plus}
use Rattle.word.proofs.Words.{plus_zero}
use Rattle.range.specs.declared.Range.{Range}
use Rattle.term.specs.Term.{Term, const, var, shift, sum, diff, neg, read, fresh, write}
use Rattle.term.specs.Base.{plain_of, plain}
use Rattle.term.specs.declared.Relation.{Relation}
use Rattle.term.specs.declared.Relation.TheVariants.{Same, Apart, Unknown}
use Rattle.term.specs.Relation.{related}
use Rattle.term.specs.Walk.{Walk, found, passed, undecided, ended, step, walk_at, walk}
use Rattle.term.specs.Rule.{read_by, read_rule, skip_by, skip_at, write_rule}
use Rattle.meaning.specs.Meaning.{Choice, Meaning, word_of, array_of, meaning_by}
use Rattle.meaning.proofs.Model.{Holds, Model, Contained}
use Rattle.meaning.proofs.Value.{valued}
use Rattle.meaning.proofs.Relations.{Says, related_says}
use Rattle.meaning.proofs.Words.{worth, shift_holds}

-- the content of an array with one store
abbrev stored : ℕ → ℕ → (ℕ → ℕ) → ℕ → ℕ
stored place element under j = cond (eqb j place) element (under j)

-- the value that a walk tells of the cell at index row i
abbrev Reaches : (ℕ → Meaning) → ℕ → Walk → ℕ → Type 0
Reaches of i (found m c) v = (of c).value ≡ v
Reaches of i (passed m onward) v = Reaches of i onward v
Reaches of i (undecided m) v = (of m).content (of i).value ≡ v
Reaches of i (ended m) v = (of m).content (of i).value ≡ v

module _ (M : ℕ) (choice : Choice) (f : ℕ → Term) (of : ℕ → Meaning) (model : Model M choice f of) where
  -- the cells of a store's row m: that of its index, and the others
  content_is : (m a b c : ℕ) → Holds M choice of m (write a b c) (of m)
      → (j : ℕ) → (of m).content j ≡ stored (of b).value (of c).value (of a).content j
  unfolding meaning_by
  content_is m a b c h j = ap (λ (n : Meaning). n.content j) (sym h.means)

  content_here : (m a b c : ℕ) → Holds M choice of m (write a b c) (of m) → (j : ℕ) → (of b).value ≡ j → (of c).value ≡ (of m).content j
  content_here m a b c h j e = sym (content_is m a b c h j ∙ pick_true _ _ _ (eq-eqb j (of b).value (sym e)))

  content_there : (m a b c : ℕ) → Holds M choice of m (write a b c) (of m)
      → (j : ℕ) → ((of b).value ≡ j → ⊥) → (of a).content j ≡ (of m).content j
  content_there m a b c h j differ =
      sym (content_is m a b c h j ∙ pick_false _ _ _ (ne_eqb j (of b).value (λ (e : j ≡ (of b).value). differ (sym e))))

  -- a plain name has its row's value
  plain_val : (x : ℕ) → (of (plain f x)).value ≡ (of x).value
  unfolding plain plain_of meaning_by
  plain_val x = by (f x) (model.rows x)
    where
      shifted : (y k : ℕ) → Holds M choice of x (shift y k) (of x) → k ≡ 0 → (of y).value ≡ (of x).value
      shifted y k h z =
          sym (plus_zero M model.pos (of y).value (model.words y)) ∙
          ap (plus M (of y).value) (sym z) ∙ sym (valued h.means)

      by : (t : Term) → Holds M choice of x t (of x) → (of (plain_of x t)).value ≡ (of x).value
      by (const k) h = refl
      by (var name l u) h = refl
      by (shift y k) h = pick_case (λ z. (of z).value ≡ (of x).value) (eqb k 0) (λ t. shifted y k h (eqb-true k 0 t)) (λ _. refl)
      by (sum a b k) h = refl
      by (diff a b k) h = refl
      by (neg a k) h = refl
      by (read a b) h = refl
      by fresh h = refl
      by (write a b c) h = refl

  module _ (g : ℕ → Range) (held : Contained of g) where
    -- a step at a store, by what is known of its index
    step_reaches : (i m a b c : ℕ) (onward : ℕ → Walk) (r : Relation) → Holds M choice of m (write a b c) (of m)
        → Says r (of b).value (of i).value → Reaches of i (onward a) ((of a).content (of i).value)
        → Reaches of i (step m a c onward r) ((of m).content (of i).value)
    unfolding step
    step_reaches i m a b c onward Same h e w = content_here m a b c h (of i).value e
    step_reaches i m a b c onward Apart h differ w =
        subst (Reaches of i (onward a)) (content_there m a b c h (of i).value differ) w
    step_reaches i m a b c onward Unknown h e w = refl

    walk_reaches : (i left m : ℕ) → Reaches of i (walk f g i left m) ((of m).content (of i).value)
    unfolding walk walk_at
    walk_reaches i zero m = refl
    walk_reaches i (suc left) m = by (f m) (model.rows m) (walk_reaches i left)
      where
        by : (t : Term) → Holds M choice of m t (of m) → ((a : ℕ) → Reaches of i (walk f g i left a) ((of a).content (of i).value))
            → Reaches of i (walk_at f g i m (walk f g i left) t) ((of m).content (of i).value)
        by (const k) h on = refl
        by (var name l u) h on = refl
        by (shift a k) h on = refl
        by (sum a b k) h on = refl
        by (diff a b k) h on = refl
        by (neg a k) h on = refl
        by (read a b) h on = refl
        by fresh h on = refl
        by (write a b c) h on =
            step_reaches i m a b c (walk f g i left) (related f g b i) h (related_says M choice f of model g held b i) (on a)

    -- the row of a walk's outcome
    read_by_holds : (x i : ℕ) (w : Walk) (v : ℕ) → Reaches of i w v → Holds M choice of x (read_by M f i w) (word_of v)
    unfolding read_by meaning_by
    read_by_holds x i (found m c) v e =
        worth M choice f of model x _ (plus_zero M model.pos (of c).value (model.words c) ∙ e) (shift_holds M choice f of model x c 0)
    read_by_holds x i (passed m onward) v e = read_by_holds x i onward v e
    read_by_holds x i (undecided m) v e =
        record { fits = tt; bounds = tt; means = ap word_of (ap (of m).content (plain_val i) ∙ e) }
    read_by_holds x i (ended m) v e =
        record { fits = tt; bounds = tt; means = ap word_of (ap (of m).content (plain_val i) ∙ e) }

    pub read_holds : (x limit m i : ℕ) → Holds M choice of x (read_rule M limit f g m i) (word_of ((of m).content (of i).value))
    unfolding read_rule
    read_holds x limit m i = read_by_holds x i (walk f g i limit m) _ (walk_reaches i limit m)

    -- away from index row i the skipped store makes no difference
    skip_under : (i m j : ℕ) → ((of i).value ≡ j → ⊥) → (of (skip_at f g i m (f m))).content j ≡ (of m).content j
    unfolding skip_at skip_by
    skip_under i m j differ = by (f m) (model.rows m)
      where
        skipped : (a b c : ℕ) (r : Relation) → Holds M choice of m (write a b c) (of m) → Says r (of b).value (of i).value
            → (of (skip_by m a r)).content j ≡ (of m).content j
        skipped a b c Same h e = content_there m a b c h j (λ (q : (of b).value ≡ j). differ (sym e ∙ q))
        skipped a b c Apart h e = refl
        skipped a b c Unknown h e = refl

        by : (t : Term) → Holds M choice of m t (of m) → (of (skip_at f g i m t)).content j ≡ (of m).content j
        by (const k) h = refl
        by (var name l u) h = refl
        by (shift a k) h = refl
        by (sum a b k) h = refl
        by (diff a b k) h = refl
        by (neg a k) h = refl
        by (read a b) h = refl
        by fresh h = refl
        by (write a b c) h = skipped a b c (related f g b i) h (related_says M choice f of model g held b i)

    pub write_holds : (x m i e : ℕ)
        → Holds M choice of x (write_rule f g m i e) (array_of (stored (of i).value (of e).value (of m).content))
    unfolding write_rule meaning_by
    write_holds x m i e = record { fits = tt; bounds = tt; means = ap array_of (fun_ext cell) }
      where
        cell : (j : ℕ)
            → stored (of (plain f i)).value (of (plain f e)).value (of (skip_at f g i m (f m))).content j
            ≡ stored (of i).value (of e).value (of m).content j
        cell j =
            rw (plain_val i, plain_val e)
            (pick_alike (eqb j (of i).value) (λ _. refl)
            (λ (t : eqb j (of i).value ≡ false). skip_under i m j (λ q. eqb-false j (of i).value t (sym q))))
