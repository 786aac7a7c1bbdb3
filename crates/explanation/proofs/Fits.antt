-- The list of an accepted question lies whole in the space that was lent for it.
use Prim.Native.Nat.{ℕ, ◌≤◌}
use native.Mathlib.Omega.{arith}
use mathlib.Core.Path.{◌≡◌, refl, sym, ap, ◌∙◌}
use mathlib.Core.List.{List}
use lib.Dec.{eqb}
use lib.ListN.{length}
use lib.Seq.{length-sets}
use borrow.Author.Tests.{ltb-false}
use Rattle.basis.proofs.Pick.{pick_true, pick_case, or_true_left}
use Rattle.basis.proofs.Reasons.{first_none}
use Rattle.judge.specs.Verdict.{is_accepted}
use Rattle.judge.proofs.Verdicts.{accepted_is, given_number, given_after, rows_after}
use Rattle.simplify.specs.Answer.{answer, answered}
use Rattle.explanation.specs.declared.Listing.{Listing}
use Rattle.explanation.specs.Why.{list_of, space_reasons, why_verdict, is_measured, why_answer, why_list, Explained}

module _ (t buffer : List ℕ) (x : ℕ) (space : List ℕ) where
  list_length : length (why_list t buffer x space) ≡ length space
  unfolding why_list
  list_length =
      pick_case (λ (l : List ℕ). length l ≡ length space) (is_accepted (why_verdict t buffer x space))
      (λ _. length-sets space 0 (list_of t x)) (λ _. refl)

  module _ (z : (why_verdict t buffer x space).number ≡ 0) where
    room : length (list_of t x) ≤ length space
    unfolding why_verdict space_reasons
    room =
        ltb-false (length space) (length (list_of t x))
        (first_none (space_reasons t x space) refl (given_number _ 0 _ (given_after _ x _ (rows_after t _ (given_after _ 0 _ z))))).0

    told : (why_answer t buffer x space).length ≡ length (list_of t x)
    unfolding why_answer is_measured
    told = pick_true _ _ _ (or_true_left (is_accepted (why_verdict t buffer x space)) (eqb (why_verdict t buffer x space).number 22) (accepted_is _ z))

pub list_fits : {t buffer space left listed : List ℕ} {x : ℕ} {a : Listing} → Explained t buffer x space a left listed → a.answer.refusal ≡ 0
    → a.length ≤ length listed
unfolding why_answer answered answer
list_fits {t} {buffer} {space} {x = x} {a} done e =
    let z : (why_verdict t buffer x space).number ≡ 0 = sym (ap (λ (l : Listing). l.answer.refusal) done.answer_is) ∙ e in
    omega (
      arith,
      ap (λ (l : Listing). l.length) done.answer_is,
      ap length done.list_is,
      list_length t buffer x space,
      told t buffer x space z,
      room t buffer x space z,
    )
