-- The rule's row holds where its original holds, with the same meaning: all nine kinds, every limit, any rows f that the meanings are a
-- model of, any ranges that hold the values. So a model of the table as it is read stays a model of the rows as they are made.
use Prim.Native.Nat.{ℕ, zero, suc}
use mathlib.Core.Path.{sym, subst}
use mathlib.Core.Bool.{Bool, true, cond}
use lib.Dec.{eqb}
use borrow.Author.Tests.{eqb-true}
use Rattle.basis.specs.Build.{put, grow, grown}
use Rattle.basis.proofs.Pick.{pick_case, pick-along}
use Rattle.range.specs.declared.Range.{Range}
use Rattle.term.specs.Term.{Term, const, var, shift, sum, diff, neg, read, fresh, write}
use Rattle.term.specs.Seen.{is_later, by_name, seen}
use Rattle.term.specs.Relation.{range_of}
use Rattle.term.specs.Rule.{rule}
use Rattle.term.specs.Result.{rule_at, simplified, renewed, result}
use Rattle.meaning.specs.Meaning.{Choice, Meaning, meaning_by}
use Rattle.meaning.proofs.Model.{Holds, Model, Contained}
use Rattle.meaning.proofs.Relations.{range_in}
use Rattle.meaning.proofs.Words.{shift_holds, sum_holds, neg_holds, diff_holds}
use Rattle.meaning.proofs.Arrays.{read_holds, write_holds}

module _ (M : ℕ) (choice : Choice) (of : ℕ → Meaning) where
  module _ (f : ℕ → Term) (model : Model M choice f of) where
    pub rule_good : (limit : ℕ) (g : ℕ → Range) → Contained of g → (x : ℕ) (t : Term) (v : Meaning)
        → Holds M choice of x t v → Holds M choice of x (rule M limit f g t) v
    unfolding rule meaning_by
    rule_good limit g held x (const k) v h = h
    rule_good limit g held x (var name l u) v h = h
    rule_good limit g held x (shift a k) v h = subst (Holds M choice of x _) h.means (shift_holds M choice f of model x a k)
    rule_good limit g held x (sum a b k) v h = subst (Holds M choice of x _) h.means (sum_holds M choice f of model x a b k)
    rule_good limit g held x (diff a b k) v h = subst (Holds M choice of x _) h.means (diff_holds M choice f of model x a b k)
    rule_good limit g held x (neg a k) v h = subst (Holds M choice of x _) h.means (neg_holds M choice f of model x a k h.fits)
    rule_good limit g held x (read m i) v h =
        subst (Holds M choice of x _) h.means (read_holds M choice f of model g held x limit m i)
    rule_good limit g held x fresh v h = h
    rule_good limit g held x (write m i e) v h =
        subst (Holds M choice of x _) h.means (write_holds M choice f of model g held x m i e)

    -- for a row as it is read: a later VAR of a name is one and the same row there and in the result
    simplified_good : (limit : ℕ) (t : ℕ → Term) (x : ℕ) (v : Meaning)
        → Holds M choice of x (seen t x) v → Holds M choice of x (simplified M limit t f x) v
    unfolding simplified rule_at seen by_name
    simplified_good limit t x v =
        pick-along (λ u. Holds M choice of x u v) (is_later t x) _
        (rule_good limit (range_of M f) (range_in M choice f of model) x (t x) v)

    -- with a row that holds in the place of row n
    put_model : (n : ℕ) (t : Term) → Holds M choice of n t (of n) → Model M choice (put f n t) of
    unfolding put
    put_model n t h =
        record {
          pos = model.pos;
          words = model.words;
          rows = λ x.
              pick_case (λ s. Holds M choice of x s (of x)) (eqb x n)
              (λ e. subst (λ y. Holds M choice of y t (of y)) (sym (eqb-true x n e)) h)
              (λ _. model.rows x);
        }

  -- a model of the table as it is read and of the rows that stood there is a model of the rows renewed, whichever are touched
  module _ (limit : ℕ) (touched : ℕ → Bool) (t kept : ℕ → Term) (table : Model M choice (seen t) of) (stood : Model M choice kept of) where
    grow_model : (n : ℕ) → Model M choice (grow (λ f x. cond (touched x) (simplified M limit t f x) (f x)) kept n) of
    unfolding grow
    grow_model zero = stood
    grow_model (suc n) =
        put_model _ (grow_model n) n _
        (pick_case (λ s. Holds M choice of n s (of n)) (touched n)
        (λ _. simplified_good _ (grow_model n) limit t n (of n) (table.rows n))
        (λ _. (grow_model n).rows n))

    pub renewed_model : Model M choice (renewed M limit touched t kept) of
    unfolding renewed grown
    renewed_model = record { pos = table.pos; words = table.words; rows = λ x. (grow_model (suc x)).rows x }

  pub result_model : (limit : ℕ) (t : ℕ → Term) → Model M choice (seen t) of → Model M choice t of → Model M choice (result M limit t) of
  unfolding result
  result_model limit t = renewed_model limit (λ x. true) t t
