-- A1, of bytes: why a read moved. Of an accepted question the list is exactly the walk that made the result row; each reason in it is true under every permitted
-- choice; a shared base is named where ranges tell apart too; and the list is as short as stated. The result slice gets the fresh result.
use Prim.Native.Nat.{ℕ, ◌+◌, ◌*◌, ◌≤◌, ◌<◌}
use native.Mathlib.Nat.{zero-add, le_refl}
use native.Mathlib.Omega.{arith}
use mathlib.Core.Path.{◌≡◌, refl, ap, sym, ◌∙◌}
use mathlib.Core.Bool.{true}
use mathlib.Core.List.{List, ◌++◌}
use lib.ListN.{length, take, drop}
use lib.Seq.{sets, sets-eq, take_at, drop_at}
use Rattle.basis.proofs.Pick.{pick_true, or_true_left}
use Rattle.row.specs.Bytes.{source_at}
use Rattle.row.proofs.Whole.{source_small}
use Rattle.table.specs.Verdict.{Verdict}
use Rattle.table.specs.Refusals.{rows, MOST}
use Rattle.table.specs.Accepted.{Accepted}
use Rattle.table.proofs.Accepts.{accepted_gives}
use Rattle.term.specs.declared.Reason.TheVariants.{Offsets}
use Rattle.term.specs.Term.{Term, read, row_of}
use Rattle.term.specs.Base.{base, offset}
use Rattle.term.specs.Walk.{compared}
use Rattle.term.specs.Reason.{meets}
use Rattle.term.specs.Bytes.{look}
use Rattle.term.proofs.Bases.{base_same}
use Rattle.term.proofs.Reasons.{Grounds, reason_grounds, shared_base_named}
use Rattle.term.proofs.Follows.{Each, met_each}
use Rattle.meaning.specs.Meaning.{Choice, Permitted, value}
use Rattle.meaning.proofs.Reasons.{Explains}
use Rattle.meaning.proofs.Demand2 as rules
use Rattle.judge.specs.Verdict.{is_accepted}
use Rattle.judge.specs.Run.{LIMIT, run_verdict}
use Rattle.judge.proofs.Granted.{run_granted, grant_run}
use Rattle.simplify.specs.Answer.{modulus, answer, answered}
use Rattle.simplify.specs.Run.{fresh_rows, fresh_removed, run_answer, run_result}
use Rattle.listing.specs.List.{list, list_for}
use Rattle.explanation.specs.Why.{list_of, why_verdict, is_measured, why_answer, why_result, why_list}
use Rattle.listing.proofs.Short.{list_short, each_numbered}
use Rattle.demands.specs.Own.{rows_in}
use Rattle.demands.specs.Former.{four_of}
use Rattle.demands.proofs.Demand2.{formed, positive, rows_left}
use Rattle.demands.proofs.Downward.{EndsAtFresh, none_spent}
use Rattle.demands.proofs.ReadWalks.{read_is, ranges, walked, stores, fresh_formed, array_named, index_named, array_walked, follows}
use Rattle.demands.proofs.ReadWalks.{as_many_as_compared, compared_at_most}
use Rattle.demands.proofs.WhyRefusals.{WhyGranted, why_granted, grant_why}

-- result rows b and i have different offsets on a shared base
pub record OnSharedBase (f : ℕ → Term) (b i : ℕ) : Type 0 where
  pub shared : base f b ≡ base f i
  pub differ : offset f b ≡ offset f i → ⊥

-- a question for row x, accepted
module _ (t buffer : List ℕ) (x : ℕ) (space : List ℕ) (granted : is_accepted (why_verdict t buffer x space) ≡ true) where
  given : WhyGranted t buffer x space
  given = why_granted t buffer x space granted

  ok : Accepted t
  ok = accepted_gives t given.asked.table

  -- row x is a READ of the table
  pub is_there : x < rows t
  is_there = given.asked.row

  pub is_read_lem : (m : ℕ) × (i : ℕ) × (look t x ≡ read m i)
  is_read_lem = read_is (look t x) given.reads

  -- ---- the fresh result

  run_accepted : is_accepted (run_verdict t buffer LIMIT) ≡ true
  run_accepted = grant_run t buffer LIMIT given.asked.table given.asked.room (le_refl LIMIT)

  pub result_is_run : why_result t buffer x space ≡ run_result t buffer LIMIT
  unfolding why_result run_result
  result_is_run = pick_true _ _ _ granted ∙ sym (pick_true _ _ _ run_accepted)

  pub numbers_are_run : four_of (why_answer t buffer x space).answer ≡ four_of (run_answer t buffer LIMIT)
  unfolding why_answer run_answer answered answer four_of
  numbers_are_run =
      ap (λ (v : Verdict). four_of (answered v (fresh_removed LIMIT t) (rows t) 0))
      (grant_why t buffer x space given ∙ sym (run_granted t buffer LIMIT run_accepted).verdict)

  -- the rows of the result slice are those that the walk goes through
  pub rows_walked : rows_in t (why_result t buffer x space) ≡ fresh_rows LIMIT t
  rows_walked = ap (rows_in t) result_is_run ∙ rows_left t buffer LIMIT run_accepted

  -- ---- the bytes of the list: its text, and then the space as it was

  list_written : why_list t buffer x space ≡ list_of t x ++ drop (length (list_of t x)) space
  unfolding why_list
  list_written =
      pick_true _ _ _ granted ∙ sets-eq (list_of t x) space 0 (rw zero-add given.fits) ∙
      ap (λ (n : ℕ). list_of t x ++ drop n space) (zero-add (length (list_of t x)))

  pub list_first : take (length (list_of t x)) (why_list t buffer x space) ≡ list_of t x
  list_first = ap (take (length (list_of t x))) list_written ∙ take_at (list_of t x) _ _ refl

  pub past_stays : drop (length (list_of t x)) (why_list t buffer x space) ≡ drop (length (list_of t x)) space
  past_stays = ap (drop (length (list_of t x))) list_written ∙ drop_at (list_of t x) _ _ refl

  pub length_told : (why_answer t buffer x space).length ≡ length (list_of t x)
  unfolding why_answer is_measured
  length_told = pick_true _ _ _ (or_true_left _ _ granted)

  -- ---- the list is exactly the walk, which made the result row and goes as document 01 says (ReadWalks' `walk_made_row`, `follows`)

  -- row x is READ m i
  module _ (m i : ℕ) (is : look t x ≡ read m i) where
    pub text_is_walk : list_of t x ≡ list (modulus t) (fresh_rows LIMIT t) (ranges LIMIT t) (source_at t) x m i (walked LIMIT t m i) (row_of (fresh_rows LIMIT t x))
    unfolding list_of list_for
    text_is_walk = ap (list_for (modulus t) LIMIT (fresh_rows LIMIT t) (ranges LIMIT t) (source_at t) x (row_of (fresh_rows LIMIT t x))) is

    pub list_is_walk : why_list t buffer x space ≡
        sets space 0 (list (modulus t) (fresh_rows LIMIT t) (ranges LIMIT t) (source_at t) x m i (walked LIMIT t m i) (row_of (fresh_rows LIMIT t x)))
    unfolding why_list
    list_is_walk = pick_true _ _ _ granted ∙ ap (sets space 0) text_is_walk

    -- 1,024 comparisons are enough: it ends with a find, at an undecided store, or at a FRESH
    pub never_spent : EndsAtFresh (fresh_rows LIMIT t) (walked LIMIT t m i)
    never_spent =
        let few : rows t ≤ MOST = ok.head.few in
        none_spent (modulus t) (fresh_rows LIMIT t) (ranges LIMIT t) i (fresh_formed LIMIT t ok) (follows LIMIT t ok x m i is)
        (omega (arith, (array_named LIMIT t ok x m i is).below, is_there)) (array_walked LIMIT t ok x m i is)

    -- ---- the reasons

    -- each is the one that the bases, offsets and ranges of the result rows give
    pub reasons_grounded : Each (λ s. Grounds (fresh_rows LIMIT t) (ranges LIMIT t) s.index i s.why) (stores LIMIT t m i)
    unfolding meets
    reasons_grounded = met_each (fresh_rows LIMIT t) (ranges LIMIT t) i _ (λ n. reason_grounds (fresh_rows LIMIT t) (ranges LIMIT t) _ i) (walked LIMIT t m i)

    -- each is true of the values of the two index rows in the table, under every permitted choice
    pub reasons_true : (choice : Choice) → Permitted (modulus t) (look t) choice →
        Each (λ s. Explains (modulus t) s.why (value (modulus t) choice (look t) s.index) (value (modulus t) choice (look t) i)) (stores LIMIT t m i)
    unfolding fresh_rows
    reasons_true choice permitted =
        rules.steps_true (modulus t) LIMIT (positive t) (look t) (formed t ok) choice permitted i (walked LIMIT t m i)

    -- different offsets on a shared base are the reason named, whether or not the ranges are separate too
    pub shared_base_first :
        Each (λ s. OnSharedBase (fresh_rows LIMIT t) s.index i → s.why ≡ Offsets (offset (fresh_rows LIMIT t) s.index) (offset (fresh_rows LIMIT t) i))
        (stores LIMIT t m i)
    unfolding meets
    shared_base_first =
        met_each (fresh_rows LIMIT t) (ranges LIMIT t) i _
        (λ n h. shared_base_named (fresh_rows LIMIT t) (ranges LIMIT t) _ i (base_same _ _ h.shared) h.differ) (walked LIMIT t m i)

    -- ---- the length

    pub list_at_most : length (list_of t x) ≤ 256 * compared (walked LIMIT t m i) + 256
    list_at_most =
        let few : rows t ≤ MOST = ok.head.few in
        rw text_is_walk
        (rw (← as_many_as_compared LIMIT t ok x m i is)
        (list_short (modulus t) (fresh_rows LIMIT t) (ranges LIMIT t) (source_at t) x m i (walked LIMIT t m i) (fresh_rows LIMIT t x) (omega (arith, is_there))
        (each_numbered (modulus t) (fresh_rows LIMIT t) (ranges LIMIT t) (source_at t) i (fresh_formed LIMIT t ok) (source_small t)
        (omega (arith, (index_named LIMIT t ok x m i is).below, is_there)) (follows LIMIT t ok x m i is)
        (omega (arith, (array_named LIMIT t ok x m i is).below, is_there)))))

  -- so the list of row x fits in 256 (x + 1) bytes, and every list in 262,144
  pub list_by_row : length (list_of t x) ≤ 256 * x + 256
  list_by_row =
      let m : ℕ = is_read_lem.0 in
      let i : ℕ = is_read_lem.1 in
      omega (arith, list_at_most m i is_read_lem.2, compared_at_most LIMIT t ok x m i is_read_lem.2)

  pub list_in_all : length (list_of t x) ≤ 262144
  list_in_all =
      let few : rows t ≤ MOST = ok.head.few in
      omega (arith, list_by_row, is_there)
