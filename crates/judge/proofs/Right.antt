-- 16: it is given, or what comes after. What a kept result has that is not refused with it: it is accepted as a table, has the table's width, and its rows are
-- arrays and words as the table's are.
use Prim.Native.Nat.{ℕ, ◌^◌, ◌<◌}
use lib.Dec.{lit<}
use mathlib.Core.Path.{◌≡◌, refl}
use mathlib.Core.Bool.{Bool, true, false, beq, not, ◌||◌, true≢false}
use mathlib.Core.List.{List, []}
use borrow.Author.Tests.{eqb-true, not-false}
use Rattle.basis.specs.Reason.{first}
use Rattle.basis.proofs.Pick.{or_left, or_right}
use Rattle.basis.proofs.Reasons.{first_here, first_skips}
use Rattle.basis.proofs.Counts.{any_none}
use Rattle.row.specs.Names.{HEADER}
use Rattle.in_bytes.specs.Numbers.{byte}
use Rattle.table.specs.Verdict.{Verdict}
use Rattle.table.specs.Refusals.{width, rows, refuse, given, check_table}
use Rattle.table.specs.Accepted.{Accepted}
use Rattle.table.proofs.Accepts.{accepted_gives}
use Rattle.table.proofs.Faulty.{given_passes}
use Rattle.term.specs.Term.{is_array}
use Rattle.term.specs.WellFormed.{WellFormed}
use Rattle.term.specs.Bytes.{look}
use Rattle.term.proofs.Accepted.{accepted_formed}
use Rattle.judge.specs.Verdict.{is_accepted}
use Rattle.judge.specs.Kept.{other_header, other_sorts, kept_wrong, kept_verdict}
use Rattle.judge.proofs.Verdicts.{accepted_only}

module _ (t part : List ℕ) (after : Verdict) where
  pub kept_stops : kept_wrong t part ≡ true → kept_verdict t part after ≡ refuse 16 0
  unfolding kept_verdict given
  kept_stops wrong = rw (first_here 16 (kept_wrong t part) [] wrong)

  pub kept_goes : kept_wrong t part ≡ false → kept_verdict t part after ≡ after
  unfolding kept_verdict first
  kept_goes right = given_passes _ 0 after (first_skips 16 (kept_wrong t part) [] right)

alike : (a b : Bool) → not (beq a b) ≡ false → a ≡ b
alike true true e = refl
alike true false e = absurd (true≢false e)
alike false true e = absurd (true≢false e)
alike false false e = refl

module _ (t part : List ℕ) (right : kept_wrong t part ≡ false) where
  -- accepted, with the table's header
  sound : not (is_accepted (check_table part)) || other_header t part ≡ false
  unfolding kept_wrong
  sound = or_left _ (other_sorts t part) right

  pub right_ok : Accepted part
  right_ok = accepted_gives part (accepted_only part (not-false _ (or_left _ (other_header t part) sound)))

  pub right_width : width part ≡ width t
  unfolding other_header width
  right_width = eqb-true (byte part 2) (byte t 2) (not-false _ (any_none _ HEADER (or_right (not (is_accepted (check_table part))) _ sound) 2 (lit< tt)))

  pub right_sorts : (x : ℕ) → x < rows t → is_array (look part x) ≡ is_array (look t x)
  unfolding kept_wrong other_sorts
  right_sorts x l = alike _ _ (any_none _ (rows t) (or_right (not (is_accepted (check_table part)) || other_header t part) _ right) x l)

  pub right_formed : WellFormed (2 ^ width t) (look part)
  right_formed = rw right_width at (accepted_formed part right_ok)
