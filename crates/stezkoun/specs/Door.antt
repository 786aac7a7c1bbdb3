-- The answer of a question in numbers.
use Rattle.std.specs.Prelude.{ℕ, ◌≡◌, List}
use Rattle.term.specs.Relation.{relation_number}
use Rattle.question.specs.Ask.{ask_relation, ask_answer}
use Rattle.stezkoun.specs.declared.Numbers.{Numbers}

-- the promise of a question, with document 01's number for the relation
pub record Told (t kept : List ℕ) (x y : ℕ) (told : Numbers) : Type 0 where
  pub answer_is : told.answer ≡ (ask_answer t kept x y).answer
  pub relation_is : told.relation ≡ relation_number (ask_relation t kept x y)
