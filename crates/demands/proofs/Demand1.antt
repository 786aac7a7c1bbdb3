-- Demand 1, of bytes: a refusal changes no lent byte, and its counts are 0; a question only reads, and its counts are always 0. That a number is given
-- exactly when its reason is the first that holds is said by the definitions of the verdicts, lists of reasons in their order, and proved of the check
-- in `table/proofs/Exactly.antt`, of a run in `RunRefusals.antt`, of an edit in `EditRefusals.antt`, of a question in `AskRefusals.antt` and of `why` in
-- `WhyRefusals.antt`.
use Prim.Native.Nat.{ℕ}
use mathlib.Core.Path.{◌≡◌, refl}
use mathlib.Core.Bool.{false}
use mathlib.Core.List.{List}
use lib.ListN.{length}
use borrow.Author.Tests.{eq-eqb, ne_eqb}
use Rattle.basis.proofs.Pick.{pick_case, pick_true, pick_false, or_true_right, or_false}
use Rattle.term.specs.declared.Relation.TheVariants.{Unknown}
use Rattle.judge.specs.Verdict.{is_accepted}
use Rattle.judge.specs.Run.{run_verdict}
use Rattle.simplify.specs.Answer.{answer, if_accepted, answered}
use Rattle.simplify.specs.Run.{run_answer, run_result}
use Rattle.simplify.specs.Edit.{edit_verdict, edit_answer, edit_table, edit_kept}
use Rattle.question.specs.Ask.{ask_verdict, ask_relation, ask_answer, compared}
use Rattle.explanation.specs.Why.{list_of, why_verdict, is_measured, why_answer, why_result, why_list}

module _ (t buffer : List ℕ) (limit : ℕ) (refused : is_accepted (run_verdict t buffer limit) ≡ false) where
  pub run_changes_nothing : run_result t buffer limit ≡ buffer
  unfolding run_result
  run_changes_nothing = pick_false (is_accepted (run_verdict t buffer limit)) _ _ refused

  pub run_counts_nothing : run_answer t buffer limit ≡ answer (run_verdict t buffer limit).number (run_verdict t buffer limit).row 0 0 0
  unfolding run_answer answered if_accepted
  run_counts_nothing = rw refused

module _ (t kept : List ℕ) (r : ℕ) (new : List ℕ) (limit : ℕ) (refused : is_accepted (edit_verdict t kept r new limit) ≡ false) where
  pub edit_changes_no_table : edit_table t kept r new limit ≡ t
  unfolding edit_table
  edit_changes_no_table = pick_false (is_accepted (edit_verdict t kept r new limit)) _ _ refused

  pub edit_changes_no_result : edit_kept t kept r new limit ≡ kept
  unfolding edit_kept
  edit_changes_no_result = pick_false (is_accepted (edit_verdict t kept r new limit)) _ _ refused

  pub edit_counts_nothing : edit_answer t kept r new limit ≡ answer (edit_verdict t kept r new limit).number (edit_verdict t kept r new limit).row 0 0 0
  unfolding edit_answer answered if_accepted
  edit_counts_nothing = rw refused

-- a question, accepted or refused
module _ (t kept : List ℕ) (x y : ℕ) where
  pub ask_counts_nothing : (ask_answer t kept x y).answer ≡ answer (ask_verdict t kept x y).number (ask_verdict t kept x y).row 0 0 0
  unfolding ask_answer compared
  ask_counts_nothing = refl

  pub ask_tells_nothing : is_accepted (ask_verdict t kept x y) ≡ false → ask_relation t kept x y ≡ Unknown
  unfolding ask_relation
  ask_tells_nothing refused = pick_false (is_accepted (ask_verdict t kept x y)) _ _ refused

-- `why`, accepted or refused, counts no comparison
pub why_compares_none : (t buffer : List ℕ) (x : ℕ) (space : List ℕ) → (why_answer t buffer x space).answer.compared ≡ 0
unfolding why_answer answered if_accepted answer
why_compares_none t buffer x space = pick_case (λ (n : ℕ). n ≡ 0) (is_accepted (why_verdict t buffer x space)) (λ h. refl) (λ h. refl)

module _ (t buffer : List ℕ) (x : ℕ) (space : List ℕ) (refused : is_accepted (why_verdict t buffer x space) ≡ false) where
  pub why_changes_no_result : why_result t buffer x space ≡ buffer
  unfolding why_result
  why_changes_no_result = pick_false (is_accepted (why_verdict t buffer x space)) _ _ refused

  pub why_changes_no_list : why_list t buffer x space ≡ space
  unfolding why_list
  why_changes_no_list = pick_false (is_accepted (why_verdict t buffer x space)) _ _ refused

  pub why_counts_nothing : (why_answer t buffer x space).answer ≡ answer (why_verdict t buffer x space).number (why_verdict t buffer x space).row 0 0 0
  unfolding why_answer answered if_accepted
  why_counts_nothing = rw refused

  -- with 22 the length that the list has is told, else none
  pub why_tells_length : (why_verdict t buffer x space).number ≡ 22 → (why_answer t buffer x space).length ≡ length (list_of t x)
  unfolding why_answer is_measured
  why_tells_length e = pick_true _ _ _ (or_true_right (is_accepted (why_verdict t buffer x space)) _ (eq-eqb _ _ e))

  pub why_tells_nothing : ((why_verdict t buffer x space).number ≡ 22 → ⊥) → (why_answer t buffer x space).length ≡ 0
  unfolding why_answer is_measured
  why_tells_nothing n = pick_false _ _ _ (or_false _ _ refused (ne_eqb _ _ n))
