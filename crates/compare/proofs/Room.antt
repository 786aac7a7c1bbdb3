-- The program's result has room for the largest table: 6 is never given.
use Prim.Native.Nat.{ℕ, ◌≤◌}
use native.Mathlib.Omega.{arith}
use mathlib.Core.Path.{◌≡◌, sym, ◌∙◌}
use mathlib.Core.Bool.{true, false}
use mathlib.Core.List.{List, []}
use lib.ListN.{length}
use lib.Dec.{eqb, ltb}
use borrow.Author.Tests.{le-ltb, eqb-true, eqb-false}
use Rattle.basis.specs.Reason.{first}
use Rattle.basis.proofs.Pick.{test_case}
use Rattle.basis.proofs.Reasons.{append_skips, append_here, first_skips}
use Rattle.row.specs.Names.{place}
use Rattle.table.specs.Refusals.{head_reasons, LARGEST}
use Rattle.table.specs.Accepted.{GoodHead}
use Rattle.table.proofs.Heads.{good_head}
use Rattle.judge.specs.Run.{room_reasons}
use Rattle.judge.proofs.Verdicts.{head_numbered}

-- of 1 to 6 those that the table alone is refused for
pub room_enough : (t buffer : List ℕ) → LARGEST ≤ length buffer → first (room_reasons t buffer) ≡ first (head_reasons t)
unfolding room_reasons first place
room_enough t buffer long =
    test_case (eqb (first (head_reasons t)) 0)
    (λ (e : eqb (first (head_reasons t)) 0 ≡ true).
    let z : first (head_reasons t) ≡ 0 = eqb-true _ 0 e in
    let good : GoodHead t = good_head t z in
    let fits : length t ≤ length buffer = omega (arith, good.size, good.few) in
    append_skips (head_reasons t) _ (head_numbered t) z ∙ first_skips 6 (ltb (length buffer) (length t)) [] (le-ltb (length buffer) (length t) fits) ∙ sym z)
    (λ (e : eqb (first (head_reasons t)) 0 ≡ false). append_here (head_reasons t) _ (eqb-false _ 0 e))
