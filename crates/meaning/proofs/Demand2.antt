-- Demand 2, over lookups: under every permitted choice a result row means what its original means; what is said of two result rows is so
-- of the two originals, and the reason given is true of them; and a result row's range holds its original's value. Every modulus M above 0
-- (M is 2 ^ w), every limit. `Choices` has that every well-formed table has a permitted choice.
use Prim.Native.Nat.{ℕ, ◌<◌}
use mathlib.Core.Path.{◌≡◌, sym, ap, ◌∙◌, subst}
use Rattle.range.specs.Range.{Within, Proper}
use Rattle.term.specs.Term.{Term, stated_by}
use Rattle.term.specs.Seen.{seen}
use Rattle.term.specs.Relation.{range_of, related}
use Rattle.term.specs.Walk.{Walk}
use Rattle.term.specs.Reason.{reason, met}
use Rattle.term.specs.Result.{result}
use Rattle.term.specs.WellFormed.{WellFormed}
use Rattle.term.proofs.Follows.{Each}
use Rattle.term.proofs.Renewed.{result_below}
use Rattle.term.proofs.Seen.{seen_own, seen_states}
use Rattle.term.proofs.WellFormed.{formed_below, result_states}
use Rattle.meaning.specs.Meaning.{Choice, Permitted, Meaning, meaning_by, meaning, value, content}
use Rattle.meaning.proofs.Model.{Bounds, Model}
use Rattle.meaning.proofs.Relations.{Says, range_in, range_fine, related_says}
use Rattle.meaning.proofs.Reasons.{Explains, reason_explains, step_explains}
use Rattle.meaning.proofs.RuleGood.{result_model}
use Rattle.meaning.proofs.Meanings.{meaning_only, meaning_words, meaning_model}
use Rattle.meaning.proofs.Seen.{seen_model}

module _ (M limit : ℕ) (pos : 0 < M) (t : ℕ → Term) (formed : WellFormed M t) (choice : Choice) (permitted : Permitted M t choice) where
  -- the table's meanings are a model of its result
  model : Model M choice (result M limit t) (meaning M choice t)
  model = result_model M choice (meaning M choice t) limit t (seen_model M t choice permitted (meaning M choice t) table) table
    where
      table : Model M choice t (meaning M choice t)
      table = meaning_model M pos t formed choice permitted

  -- where a result row states a name, it is that of its original
  stated : (x : ℕ) → (stated_by (result M limit t x) ≡ 0 → ⊥) → stated_by (result M limit t x) ≡ stated_by (t x)
  stated x named =
      let read : stated_by (result M limit t x) ≡ stated_by (seen t x) = result_states M limit pos t formed x in
      read ∙ ap stated_by (seen_own t x (seen_states t x (λ e. named (read ∙ e))))

  -- the choice is one for the result too
  pub run_permits : Permitted M (result M limit t) choice
  unfolding meaning_by
  run_permits =
      record {
        bounds = λ x name k h e. subst (Bounds choice x) e (model.rows x).bounds;
        words = λ x i e.
            subst (λ v. v < M)
            (ap (λ (m : Meaning). m.content i) (sym (model.rows x).means ∙ ap (meaning_by M choice (meaning M choice t) x) e))
            ((meaning_words M pos t formed choice permitted x).content_below i);
        one_value = λ x y named same.
            let own : stated_by (result M limit t x) ≡ stated_by (t x) = stated x named in
            permitted.one_value x y (λ e. named (own ∙ e)) (sym own ∙ same ∙ stated y (λ e. named (same ∙ e)));
      }

  -- and by it each result row has its original's meaning
  pub run_means_both : (x : ℕ) → meaning M choice (result M limit t) x ≡ meaning M choice t x
  run_means_both x =
      sym (meaning_only M choice (result M limit t) (result_below M limit t (formed_below M t formed)) (meaning M choice t)
      (λ y. sym (model.rows y).means) x)

  pub run_means : (x : ℕ) → value M choice (result M limit t) x ≡ value M choice t x
  run_means x = ap (λ (m : Meaning). m.value) (run_means_both x)

  pub run_means_at : (x i : ℕ) → content M choice (result M limit t) x i ≡ content M choice t x i
  run_means_at x i = ap (λ (m : Meaning). m.content i) (run_means_both x)

  -- a result row's range holds its original's value
  pub run_range_in : (x : ℕ) → Within (value M choice t x) (range_of M (result M limit t) x)
  run_range_in = range_in M choice (result M limit t) (meaning M choice t) model

  -- and is one piece, or two in order that do not touch, of words
  pub run_range_proper : (x : ℕ) → Proper M (range_of M (result M limit t) x)
  run_range_proper = range_fine M choice (result M limit t) (meaning M choice t) model

  -- same: the originals are equal; apart: they differ
  pub compare_says : (x y : ℕ)
      → Says (related (result M limit t) (range_of M (result M limit t)) x y) (value M choice t x) (value M choice t y)
  compare_says = related_says M choice (result M limit t) (meaning M choice t) model (range_of M (result M limit t)) run_range_in

  -- the reason given for two result rows is true of the originals
  pub reason_true : (x y : ℕ)
      → Explains M (reason (result M limit t) (range_of M (result M limit t)) x y) (value M choice t x) (value M choice t y)
  reason_true = reason_explains M choice (result M limit t) (meaning M choice t) model (range_of M (result M limit t)) run_range_in

  -- and so is the reason of each store that a walk for the index row i lists
  pub steps_true : (i : ℕ) (w : Walk)
      → Each (λ s. Explains M s.why (value M choice t s.index) (value M choice t i)) (met (result M limit t) (range_of M (result M limit t)) i w)
  steps_true = step_explains M choice (result M limit t) (meaning M choice t) model (range_of M (result M limit t)) run_range_in
