-- Demand 2, of bytes and with every limit: under every permitted choice each row of the result that a fresh run leaves means what its original means; its range holds
-- that value; rows that a question about the table's own kept result, made with any one limit, reports same are equal, rows that it reports apart differ, and the
-- reason that it gives is true. Nothing is assumed but "accepted", "own" and "permitted", and for every accepted table there is a permitted choice.
use Prim.Native.Nat.{ℕ, ◌<◌}
use lib.Pow.{pow_pos}
use mathlib.Core.Path.{◌≡◌, ap, fun_ext, subst, ◌∙◌}
use mathlib.Core.Bool.{true}
use mathlib.Core.List.{List}
use lib.ListN.{length, take}
use Rattle.basis.proofs.Pick.{pick_case, pick_true}
use Rattle.range.specs.Range.{Within, Proper}
use Rattle.table.specs.Refusals.{width}
use Rattle.table.specs.Accepted.{Accepted}
use Rattle.table.proofs.Accepts.{accepted_gives}
use Rattle.term.specs.declared.Relation.TheVariants.{Same, Apart}
use Rattle.term.specs.Term.{Term}
use Rattle.term.specs.Relation.{range_of}
use Rattle.term.specs.Result.{result}
use Rattle.term.specs.WellFormed.{WellFormed}
use Rattle.term.specs.Bytes.{look}
use Rattle.term.proofs.Accepted.{accepted_formed, accepted_one}
use Rattle.meaning.specs.Meaning.{Choice, Permitted, value, content}
use Rattle.meaning.proofs.Relations.{Says}
use Rattle.meaning.proofs.Reasons.{Explains}
use Rattle.meaning.proofs.Demand2 as rules
use Rattle.meaning.proofs.Choices.{least, choice_exists}
use Rattle.judge.specs.Verdict.{is_accepted}
use Rattle.judge.specs.Run.{run_verdict}
use Rattle.judge.proofs.Granted.{run_granted}
use Rattle.simplify.specs.Answer.{modulus}
use Rattle.simplify.specs.Run.{fresh_rows, run_result}
use Rattle.question.specs.Ask.{ask_verdict, kept_rows, ask_relation, ask_reason}
use Rattle.demands.specs.Own.{rows_in, Own}
use Rattle.demands.proofs.Fresh.{fresh_look}
use Rattle.demands.proofs.Owned.{own_accepted, part_rows}

pub formed : (t : List ℕ) → Accepted t → WellFormed (modulus t) (look t)
unfolding modulus
formed t ok = accepted_formed t ok

pub positive : (t : List ℕ) → 0 < modulus t
unfolding modulus
positive t = pow_pos (width t)

-- a fresh run of the table t into the buffer, accepted
module _ (t buffer : List ℕ) (limit : ℕ) (granted : is_accepted (run_verdict t buffer limit) ≡ true) where
  ok : Accepted t
  ok = accepted_gives t (run_granted t buffer limit granted).table

  -- the rows that the run leaves are those of the written result
  pub rows_left : rows_in t (run_result t buffer limit) ≡ fresh_rows limit t
  unfolding rows_in run_result
  rows_left =
      ap (λ (l : List ℕ). look (take (length t) l)) (pick_true (is_accepted (run_verdict t buffer limit)) _ _ granted) ∙
      fun_ext (fresh_look limit t buffer ok (run_granted t buffer limit granted).roomy.room)

  -- there is a permitted choice
  pub some_choice : Permitted (modulus t) (look t) (least (look t))
  some_choice = choice_exists (modulus t) (positive t) (look t) (formed t ok) (accepted_one t ok)

  -- the range of every result row is one piece, or two in order that do not touch, of words
  pub ranges_proper : (x : ℕ) → Proper (modulus t) (range_of (modulus t) (rows_in t (run_result t buffer limit)) x)
  unfolding fresh_rows
  ranges_proper x = rw rows_left (rules.run_range_proper (modulus t) limit (positive t) (look t) (formed t ok) (least (look t)) some_choice x)

  module _ (choice : Choice) (permitted : Permitted (modulus t) (look t) choice) where
    pub words_mean : (x : ℕ) → value (modulus t) choice (rows_in t (run_result t buffer limit)) x ≡ value (modulus t) choice (look t) x
    unfolding fresh_rows
    words_mean x =
        ap (λ (f : ℕ → Term). value (modulus t) choice f x) rows_left ∙
        rules.run_means (modulus t) limit (positive t) (look t) (formed t ok) choice permitted x

    pub arrays_mean : (x i : ℕ) → content (modulus t) choice (rows_in t (run_result t buffer limit)) x i ≡ content (modulus t) choice (look t) x i
    unfolding fresh_rows
    arrays_mean x i =
        ap (λ (f : ℕ → Term). content (modulus t) choice f x i) rows_left ∙
        rules.run_means_at (modulus t) limit (positive t) (look t) (formed t ok) choice permitted x i

    pub ranges_hold : (x : ℕ) → Within (value (modulus t) choice (look t) x) (range_of (modulus t) (rows_in t (run_result t buffer limit)) x)
    unfolding fresh_rows
    ranges_hold x = rw rows_left (rules.run_range_in (modulus t) limit (positive t) (look t) (formed t ok) choice permitted x)

-- a question about rows x and y of the table's own kept result. (Where it is refused, nothing is said of them.)
module _ {limit : ℕ} (t kept : List ℕ) (own : Own limit t kept) (x y : ℕ) (choice : Choice) (permitted : Permitted (modulus t) (look t) choice) where
  rows_are : kept_rows t kept ≡ result (modulus t) limit (look t)
  unfolding kept_rows fresh_rows
  rows_are = part_rows t kept own

  abbrev has : ℕ → ℕ
  has = value (modulus t) choice (look t)

  relation_told : Says (ask_relation t kept x y) (has x) (has y)
  unfolding ask_relation
  relation_told =
      pick_case (λ known. Says known (has x) (has y)) (is_accepted (ask_verdict t kept x y))
      (λ e. rw rows_are (rules.compare_says (modulus t) limit (positive t) (look t) (formed t (own_accepted t kept own)) choice permitted x y))
      (λ e. tt)

  pub same_are_equal : ask_relation t kept x y ≡ Same → value (modulus t) choice (look t) x ≡ value (modulus t) choice (look t) y
  same_are_equal e = subst (λ known. Says known (has x) (has y)) e relation_told

  pub apart_differ : ask_relation t kept x y ≡ Apart → value (modulus t) choice (look t) x ≡ value (modulus t) choice (look t) y → ⊥
  apart_differ e = subst (λ known. Says known (has x) (has y)) e relation_told

  pub reason_told_true : Explains (modulus t) (ask_reason t kept x y) (value (modulus t) choice (look t) x) (value (modulus t) choice (look t) y)
  unfolding ask_reason
  reason_told_true =
      pick_case (λ why. Explains (modulus t) why (has x) (has y)) (is_accepted (ask_verdict t kept x y))
      (λ e. rw rows_are (rules.reason_true (modulus t) limit (positive t) (look t) (formed t (own_accepted t kept own)) choice permitted x y))
      (λ e. tt)
