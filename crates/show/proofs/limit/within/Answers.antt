use native.Mathlib.Omega.{arith}
use Rattle.show.proofs.Limits.{limit_above, limit_within, no_limit}
use Rattle.show.proofs.limit.within.Goals as goal

pub returns-in_err-limit : goal.returns-in_err-limit
returns-in_err-limit c = rw c.from_residual.ensures (no_limit _ c.in_err-limit.was)

pub returns-then-limit : goal.returns-then-limit
returns-then-limit c = limit_above _ _ c.in_ok-limit.was (omega arith)

pub returns : goal.returns
returns c = limit_within _ _ c.in_ok-limit.was (omega arith)
