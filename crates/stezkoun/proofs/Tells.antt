-- The number of each relation, and a question's answer told in numbers.
use Prim.Native.Nat.{ℕ}
use mathlib.Core.Path.{◌≡◌, ap, sym, ◌∙◌}
use mathlib.Core.List.{List}
use Rattle.term.specs.declared.Relation.{Relation}
use Rattle.term.specs.declared.Relation.TheVariants.{Unknown, Same, Apart}
use Rattle.term.specs.Relation.{relation_number}
use Rattle.term.specs.Reason.{known_by}
use Rattle.question.specs.declared.Comparison.{Comparison}
use Rattle.question.specs.Ask.{ask_answer}
use Rattle.question.proofs.Told.{known_by_why}
use Rattle.stezkoun.specs.Door.{Told}

pub unknown_number : {r : Relation} → r ≡ Unknown → 0 ≡ relation_number r
unfolding relation_number
unknown_number e = ap relation_number (sym e)

pub same_number : {r : Relation} → r ≡ Same → 1 ≡ relation_number r
unfolding relation_number
same_number e = ap relation_number (sym e)

pub apart_number : {r : Relation} → r ≡ Apart → 2 ≡ relation_number r
unfolding relation_number
apart_number e = ap relation_number (sym e)

module _ (t kept : List ℕ) (x y : ℕ) {c : Comparison} (said : c ≡ ask_answer t kept x y) where
  pub told_in_numbers : {k : Relation} {n : ℕ} → k ≡ known_by c.why → n ≡ relation_number k → Told t kept x y (record { answer = c.answer; relation = n })
  told_in_numbers known e =
      record {
        answer_is = ap (λ (d : Comparison). d.answer) said;
        relation_is = e ∙ ap relation_number (known ∙ ap (λ (d : Comparison). known_by d.why) said ∙ known_by_why t kept x y);
      }
