use native.Mathlib.Omega.{arith}
use Rattle.std.proofs.Common.{rules}
use Rattle.marks.proofs.Marking.{words_set, or_fits, mark_told}
use Rattle.marks.proofs.Marks.mark_if.Goals as goal

pub invariant_of-self : goal.invariant_of-self
invariant_of-self c =
    words_set _ c.self.invariant _ _ (omega arith) (search (rules, or_fits, c.self.invariant.fit))

pub returns : goal.returns
returns c = rw (← c.self.view_is, c.from.ensures) (mark_told _ c.args.x c.args.passed c.self.invariant c.requires)
