-- Under a permitted choice a table means what it means as it is read: a later VAR of a name has the value of the first, and so has SHIFT of the
-- first by 0.
use Prim.Native.Nat.{ℕ, ◌<◌}
use mathlib.Core.Path.{◌≡◌, refl, sym, ap, ◌∙◌, subst}
use mathlib.Core.Bool.{true, false}
use Rattle.basis.proofs.Pick.{test_case}
use Rattle.word.proofs.Words.{plus_zero}
use Rattle.term.specs.Term.{Term, shift, stated_by}
use Rattle.term.specs.Seen.{first_row, is_later, seen}
use Rattle.term.specs.WellFormed.{WellFormed}
use Rattle.term.proofs.Seen.{stated_case, first_row_name, later_states, first_states, seen_own, seen_later, seen_below}
use Rattle.term.proofs.WellFormed.{formed_below}
use Rattle.meaning.specs.Meaning.{Choice, Permitted, Meaning, word_of, meaning_by, meaning}
use Rattle.meaning.proofs.Model.{Holds, Model}
use Rattle.meaning.proofs.Meanings.{meaning_only, meaning_model}

-- a row that states a name means the word of the choice
stated_means : (M : ℕ) (choice : Choice) (of : ℕ → Meaning) (x : ℕ) (u : Term) → (stated_by u ≡ 0 → ⊥)
    → meaning_by M choice of x u ≡ word_of (choice.word x)
unfolding meaning_by
stated_means M choice of x = stated_case (λ u. meaning_by M choice of x u ≡ word_of (choice.word x)) (λ name k h. refl)

-- a model of the table is one of the table as it is read
module _ (M : ℕ) (t : ℕ → Term) (choice : Choice) (permitted : Permitted M t choice) (of : ℕ → Meaning) (model : Model M choice t of) where
  stated_is : (x : ℕ) → (stated_by (t x) ≡ 0 → ⊥) → of x ≡ word_of (choice.word x)
  stated_is x named = sym (model.rows x).means ∙ stated_means M choice of x (t x) named

  later_is_first : (x : ℕ) → is_later t x ≡ true → of (first_row t x) ≡ of x
  later_is_first x later =
      stated_is (first_row t x) (first_states t x later) ∙
      ap word_of (permitted.one_value (first_row t x) x (first_states t x later) (first_row_name t x)) ∙
      sym (stated_is x (later_states t x later))

  later_holds : (x : ℕ) → is_later t x ≡ true → Holds M choice of x (shift (first_row t x) 0) (of x)
  unfolding meaning_by
  later_holds x later =
      record {
        fits = model.pos;
        bounds = tt;
        means =
            ap word_of (plus_zero M model.pos (of (first_row t x)).value (model.words (first_row t x)) ∙ ap (λ (m : Meaning). m.value) (later_is_first x later)) ∙
            word_again;
      }
    where
      word_again : word_of (of x).value ≡ of x
      word_again = let e : of x ≡ word_of (choice.word x) = stated_is x (later_states t x later) in ap (λ (m : Meaning). word_of m.value) e ∙ sym e

  pub seen_model : Model M choice (seen t) of
  seen_model =
      record {
        pos = model.pos;
        words = model.words;
        rows = λ x.
            test_case (is_later t x)
            (λ (later : is_later t x ≡ true). subst (λ u. Holds M choice of x u (of x)) (sym (seen_later t x later)) (later_holds x later))
            (λ (own : is_later t x ≡ false). subst (λ u. Holds M choice of x u (of x)) (sym (seen_own t x own)) (model.rows x));
      }

pub meaning_seen : (M : ℕ) → 0 < M → (t : ℕ → Term) → WellFormed M t → (choice : Choice) → Permitted M t choice
    → (x : ℕ) → meaning M choice t x ≡ meaning M choice (seen t) x
meaning_seen M pos t formed choice permitted =
    meaning_only M choice (seen t) (seen_below t (formed_below M t formed)) (meaning M choice t)
    (λ x. sym ((seen_model M t choice permitted (meaning M choice t) (meaning_model M pos t formed choice permitted)).rows x).means)
