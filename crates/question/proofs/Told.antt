-- The reason that a question tells, with any kept result: the relation is known by it, and it is the one that the kept rows give.
use Prim.Native.Nat.{ℕ}
use mathlib.Core.Path.{◌≡◌, sym}
use mathlib.Core.Bool.{true}
use mathlib.Core.List.{List}
use Rattle.basis.proofs.Pick.{test_case}
use Rattle.term.specs.Relation.{range_of}
use Rattle.term.specs.Reason.{known_by}
use Rattle.term.proofs.Reasons.{Grounds, related_reason, reason_grounds}
use Rattle.judge.specs.Verdict.{is_accepted}
use Rattle.simplify.specs.Answer.{modulus}
use Rattle.question.specs.Ask.{ask_verdict, kept_rows, ask_relation, ask_reason, ask_answer, compared}

module _ (t kept : List ℕ) (x y : ℕ) where
  -- by it the relation is known
  pub known_by_why : known_by (ask_answer t kept x y).why ≡ ask_relation t kept x y
  unfolding ask_answer compared ask_reason ask_relation known_by
  known_by_why =
      test_case (is_accepted (ask_verdict t kept x y))
      (λ h. rw h (sym (related_reason (kept_rows t kept) (range_of (modulus t) (kept_rows t kept)) x y)))
      (λ h. rw h)

  -- it is the one that bases, offsets and ranges of the kept rows give, and its numbers are theirs, those of row x first
  pub reason_grounded : is_accepted (ask_verdict t kept x y) ≡ true →
      Grounds (kept_rows t kept) (range_of (modulus t) (kept_rows t kept)) x y (ask_reason t kept x y)
  unfolding ask_reason
  reason_grounded granted = rw granted (reason_grounds (kept_rows t kept) (range_of (modulus t) (kept_rows t kept)) x y)
