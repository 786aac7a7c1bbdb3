-- The table's own kept result: the part of it that is judged and used is an accepted table with the table's header and sorts, and its rows are those of
-- the fresh result. So it is never refused with 16 beside the table as it stands.
use Prim.Native.Nat.{ℕ, zero, suc, ◌^◌, ◌≤◌, ◌<◌}
use native.Mathlib.Nat.{le_refl}
use native.Mathlib.Omega.{arith}
use lib.Pow.{pow_pos}
use mathlib.Core.Path.{◌≡◌, refl, ap, sym, fun_ext, subst, ◌∙◌}
use mathlib.Core.Bool.{Bool, true, false, beq, not}
use mathlib.Core.List.{List}
use lib.ListN.{length, take}
use lib.Seq.{get_or-take, take-take}
use borrow.Author.Tests.{eq-eqb}
use Rattle.basis.specs.Count.{any_below}
use Rattle.basis.proofs.Pick.{or_false}
use Rattle.in_bytes.specs.Numbers.{byte}
use Rattle.row.specs.Names.{HEADER, place}
use Rattle.row.proofs.Places.{header_below}
use Rattle.table.specs.Refusals.{width, rows, refuse, accepted, check_table}
use Rattle.table.specs.Accepted.{Accepted}
use Rattle.table.proofs.Accepts.{accepted_gives, gives_accepted}
use Rattle.term.specs.Term.{Term, is_array}
use Rattle.term.specs.Bytes.{look}
use Rattle.term.proofs.WellFormed.{result_sort}
use Rattle.term.proofs.Accepted.{accepted_formed}
use Rattle.judge.specs.Kept.{kept_part, other_header, other_sorts, kept_wrong}
use Rattle.judge.proofs.Verdicts.{accepted_is}
use Rattle.judge.proofs.Granted.{run_granted}
use Rattle.simplify.specs.Answer.{modulus}
use Rattle.simplify.specs.Run.{fresh_rows, fresh_bytes}
use Rattle.demands.specs.Own.{Own}
use Rattle.demands.proofs.Fresh.{run_leaves, fresh_head, fresh_look, fresh_accepted}

none_below : (test : ℕ → Bool) (n : ℕ) → ((x : ℕ) → x < n → test x ≡ false) → any_below test n ≡ false
unfolding any_below
none_below test zero h = refl
none_below test (suc n) h = or_false (any_below test n) (test n) (none_below test n (λ (x : ℕ) (l : x < n). h x (omega arith))) (h n (le_refl (suc n)))

alike_beq : (a b : Bool) → a ≡ b → not (beq a b) ≡ false
alike_beq a b e = rw e (own b)
  where
    own : (c : Bool) → not (beq c c) ≡ false
    own true = refl
    own false = refl

-- an accepted part with the header and the sorts of a table goes with it
pub goes_with : (t part : List ℕ) → check_table part ≡ accepted → take HEADER part ≡ take HEADER t → ((x : ℕ) → is_array (look part x) ≡ is_array (look t x)) →
    kept_wrong t part ≡ false
unfolding kept_wrong other_header other_sorts accepted refuse
goes_with t part passes head sorts =
    or_false _ (other_sorts t part)
    (or_false _ (other_header t part)
    (ap not (accepted_is (check_table part) (ap (λ v. v.number) passes)))
    (none_below _ HEADER
    (λ i l. ap not (eq-eqb (byte part i) (byte t i) (sym (get_or-take HEADER part i 0 l) ∙ ap (λ (h : List ℕ). byte h i) head ∙ get_or-take HEADER t i 0 l)))))
    (none_below _ (rows t) (λ x l. alike_beq _ _ (sorts x)))

-- made with any limit
module _ {limit : ℕ} (t kept : List ℕ) (own : Own limit t kept) where
  pub own_accepted : Accepted t
  own_accepted = accepted_gives t (run_granted t kept limit own.accepted).table

  pub own_room : length t ≤ length kept
  own_room = (run_granted t kept limit own.accepted).roomy.room

  pub own_fresh : fresh_bytes limit t kept ≡ kept
  own_fresh = sym (run_leaves t kept limit own.accepted) ∙ own.settled

  pub own_head : take HEADER kept ≡ take HEADER t
  own_head = ap (take HEADER) (sym own_fresh) ∙ fresh_head limit t kept own_accepted own_room

  -- its part: as much of the fresh result as the table is long
  part_fresh : take (length t) (fresh_bytes limit t kept) ≡ kept_part t kept
  unfolding kept_part
  part_fresh = ap (take (length t)) own_fresh ∙ ap (λ (n : ℕ). take n kept) own_accepted.head.size

  pub part_accepted : check_table (kept_part t kept) ≡ accepted
  part_accepted = gives_accepted (kept_part t kept) (subst Accepted part_fresh (fresh_accepted limit t kept own_accepted own_room))

  pub part_head : take HEADER (kept_part t kept) ≡ take HEADER t
  unfolding kept_part
  part_head = take-take HEADER (place (rows t)) kept (header_below (rows t)) ∙ own_head

  pub part_rows : look (kept_part t kept) ≡ fresh_rows limit t
  part_rows = ap look (sym part_fresh) ∙ fun_ext (fresh_look limit t kept own_accepted own_room)

  pub part_sort : (x : ℕ) → is_array (look (kept_part t kept) x) ≡ is_array (look t x)
  unfolding fresh_rows modulus
  part_sort x =
      ap (λ (f : ℕ → Term). is_array (f x)) part_rows ∙
      result_sort (2 ^ width t) limit (pow_pos (width t)) (look t) (accepted_formed t own_accepted) x

  -- it goes with the table
  pub part_goes : kept_wrong t (kept_part t kept) ≡ false
  part_goes = goes_with t (kept_part t kept) part_accepted part_head part_sort
