-- No second outcome satisfies the promise of a public function: answer and buffers are determined by the input.
use Prim.Native.Nat.{ℕ}
use mathlib.Core.Path.{◌≡◌, sym, ◌∙◌}
use mathlib.Core.List.{List}
use Rattle.simplify.specs.declared.Answer.{Answer}
use Rattle.simplify.specs.Run.{Ran}
use Rattle.simplify.specs.Edit.{Edited}
use Rattle.question.specs.declared.Comparison.{Comparison}
use Rattle.question.specs.Ask.{ask_answer}
use Rattle.explanation.specs.declared.Listing.{Listing}
use Rattle.explanation.specs.Why.{Explained}

pub run_determined : {t buffer : List ℕ} {limit : ℕ} {a a' : Answer} {left left' : List ℕ} →
    Ran t buffer limit a left → Ran t buffer limit a' left' → (a ≡ a') × (left ≡ left')
run_determined p q = (p.answer_is ∙ sym q.answer_is, p.result_is ∙ sym q.result_is)

pub edit_determined : {t kept : List ℕ} {r : ℕ} {new : List ℕ} {limit : ℕ} {a a' : Answer} {table table' left left' : List ℕ} →
    Edited t kept r new limit a table left → Edited t kept r new limit a' table' left' → (a ≡ a') × (table ≡ table') × (left ≡ left')
edit_determined p q = (p.answer_is ∙ sym q.answer_is, p.table_is ∙ sym q.table_is, p.kept_is ∙ sym q.kept_is)

-- a question's promise is that one equation
pub ask_determined : (t kept : List ℕ) (x y : ℕ) {a a' : Comparison} → a ≡ ask_answer t kept x y → a' ≡ ask_answer t kept x y → a ≡ a'
ask_determined t kept x y p q = p ∙ sym q

pub why_determined : {t buffer : List ℕ} {x : ℕ} {space : List ℕ} {a a' : Listing} {left left' listed listed' : List ℕ} →
    Explained t buffer x space a left listed → Explained t buffer x space a' left' listed' → (a ≡ a') × (left ≡ left') × (listed ≡ listed')
why_determined p q = (p.answer_is ∙ sym q.answer_is, p.result_is ∙ sym q.result_is, p.list_is ∙ sym q.list_is)
