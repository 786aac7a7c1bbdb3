use Rattle.question.proofs.Answered.{blank, why_shared, why_kept}
use Rattle.question.proofs.asking.why.Goals as goal

pub returns-then-same_base : goal.returns-then-same_base
returns-then-same_base c = search why_shared

pub keep_two-requires-clause-blank : goal.keep_two-requires-clause-blank
keep_two-requires-clause-blank c = rw c.new-store.ensures (blank c.args.w)

pub returns : goal.returns
returns c = search why_kept
