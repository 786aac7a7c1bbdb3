-- A limit that is no smaller than the number of rows: a walk goes down, so it is never cut off, and a run and an edit with it are those with 1,024, in every number
-- and every byte, also in what they are refused for.
use Prim.Native.Nat.{ℕ, ◌≤◌, ◌<◌}
use native.Mathlib.Omega.{arith}
use native.Mathlib.Decide.{dec_lt}
use mathlib.Core.Path.{◌≡◌, refl, ap, sym, fun_ext, subst, ◌∙◌}
use mathlib.Core.Bool.{Bool, true, false, cond, false≢true}
use mathlib.Core.Logic.{dite}
use mathlib.Core.List.{List}
use borrow.Author.Tests.{le-ltb}
use Rattle.basis.proofs.Pick.{pick_alike, test_case}
use Rattle.basis.proofs.Counts.{total_same}
use Rattle.range.specs.declared.Range.{Range}
use Rattle.row.proofs.Places.{place_grows}
use Rattle.table.specs.Refusals.{rows}
use Rattle.table.specs.Accepted.{Accepted}
use Rattle.table.proofs.Accepts.{accepted_gives}
use Rattle.term.specs.Term.{Term, const, var, shift, sum, diff, neg, read, fresh, write, is_read}
use Rattle.term.specs.Relation.{range_of}
use Rattle.term.specs.Walk.{walk, compared}
use Rattle.term.specs.Rule.{rule, read_by, read_rule}
use Rattle.term.specs.Seen.{by_name}
use Rattle.term.specs.Result.{rule_at, simplified, renewed, result}
use Rattle.term.specs.Compared.{compared_by, compared_rows}
use Rattle.term.specs.WellFormed.{Names, WellFormed}
use Rattle.term.specs.Bytes.{look, edited}
use Rattle.term.proofs.Names.{NamesBelow}
use Rattle.term.proofs.Renewed.{KeptBelow, renewed_eq, renewed_only}
use Rattle.term.proofs.WellFormed.{formed_below}
use Rattle.term.proofs.Looked.{look_past}
use Rattle.judge.specs.Verdict.{is_accepted}
use Rattle.judge.specs.Run.{LIMIT, limit_reasons, run_reasons, run_verdict}
use Rattle.judge.specs.Kept.{kept_part}
use Rattle.judge.specs.Edit.{edit_reasons}
use Rattle.judge.proofs.Granted.{run_granted}
use Rattle.simplify.specs.Answer.{modulus, if_accepted, answered}
use Rattle.simplify.specs.Run.{fresh_rows, fresh_bytes, fresh_removed, fresh_compared, run_answer, run_result}
use Rattle.simplify.specs.Edit.{edit_verdict, is_touched, edited_rows, edited_bytes, edited_removed, edited_compared, edit_answer, edit_table, edit_kept}
use Rattle.demands.proofs.Demand2.{formed}
use Rattle.demands.proofs.Downward.{walk_enough}
use Rattle.demands.proofs.ReadWalks.{read_is, fresh_formed}
use Rattle.demands.proofs.AfterEdit.{edited_ok, edited_count, edited_past, edited_formed, kept_below}
use Rattle.demands.proofs.Ceiling.{read_compares, other_compares_none}

-- ---- over lookups

-- a term is a READ only of rows below both limits
abbrev Low : ℕ → ℕ → ℕ → Term → Type 0
Low limit limit' x t = is_read t ≡ true → (x ≤ limit) × (x ≤ limit')

module _ (M limit limit' : ℕ) (f : ℕ → Term) (g : ℕ → Range) (formed-rows : WellFormed M f) where
  same_walk : (x m i : ℕ) → m < x → (x ≤ limit) × (x ≤ limit') → walk f g i limit m ≡ walk f g i limit' m
  same_walk x m i l both = walk_enough M f g i formed-rows limit limit' m (omega (arith, l, both.0)) (omega (arith, l, both.1))

  rule_enough : (x : ℕ) (t : Term) → Names (λ s y. y < x) t → Low limit limit' x t → rule M limit f g t ≡ rule M limit' f g t
  unfolding rule read_rule is_read
  rule_enough x (const k) n low = refl
  rule_enough x (var name k h) n low = refl
  rule_enough x (shift a k) n low = refl
  rule_enough x (sum a b k) n low = refl
  rule_enough x (diff a b k) n low = refl
  rule_enough x (neg a k) n low = refl
  rule_enough x (read m i) n low = ap (read_by M f i) (same_walk x m i n.0 (low refl))
  rule_enough x fresh n low = refl
  rule_enough x (write a b c) n low = refl

  compared_enough : (x : ℕ) (t : Term) → Names (λ s y. y < x) t → Low limit limit' x t → compared_by limit f g t ≡ compared_by limit' f g t
  compared_enough x t n low =
      test_case (is_read t)
      (λ (h : is_read t ≡ true).
      let is = read_is t h in
      read_compares limit f g t is.0 is.1 is.2 ∙
      ap compared (same_walk x is.0 is.1 (subst (Names (λ s y. y < x)) is.2 n).0 (low h)) ∙
      sym (read_compares limit' f g t is.0 is.1 is.2))
      (λ (h : is_read t ≡ false). other_compares_none limit f g t h ∙ sym (other_compares_none limit' f g t h))

-- the rows t, over a kept result, with its rows as they are in the end
module _
    (M limit limit' : ℕ)
    (touched : ℕ → Bool)
    (t kept : ℕ → Term)
    (low : NamesBelow t)
    (low-kept : KeptBelow touched kept)
    (formed-rows : WellFormed M (renewed M limit touched t kept))
    (reads_low : (x : ℕ) → Low limit limit' x (t x))
  where
    abbrev out : ℕ → Term
    out = renewed M limit touched t kept

    simplified_enough : (x : ℕ) → simplified M limit t out x ≡ simplified M limit' t out x
    unfolding simplified rule_at
    simplified_enough x = ap (by_name t x) (rule_enough M limit limit' out (range_of M out) formed-rows x (t x) (low x) (reads_low x))

    renewed_enough : renewed M limit touched t kept ≡ renewed M limit' touched t kept
    renewed_enough =
        fun_ext
        (renewed_only M limit' touched t kept low low-kept out
        (λ x. renewed_eq M limit touched t kept low low-kept x ∙ pick_alike (touched x) (λ h. simplified_enough x) (λ h. refl)))

    rows_enough : (n : ℕ) → compared_rows M limit touched t out n ≡ compared_rows M limit' touched t (renewed M limit' touched t kept) n
    unfolding compared_rows
    rows_enough n =
        total_same _ _ n
        (λ x l. ap (λ (k : ℕ). cond (touched x) k 0) (compared_enough M limit limit' out (range_of M out) formed-rows x (t x) (low x) (reads_low x))) ∙
        ap (λ f. compared_rows M limit' touched t f n) renewed_enough

-- ---- of bytes

-- a READ is one of the rows
reads_low : (limit limit' : ℕ) (t : List ℕ) → ((x : ℕ) → (x < rows t → ⊥) → look t x ≡ const 0) → rows t ≤ limit → rows t ≤ limit' →
    (x : ℕ) → Low limit limit' x (look t x)
unfolding is_read
reads_low limit limit' t past few few' x is =
    dite (dec_lt x (rows t)) (λ (l : x < rows t). (omega arith, omega arith))
    (λ (l : x < rows t → ⊥). absurd (false≢true (sym (ap is_read (past x l)) ∙ is)))

-- a run
module _ (t buffer : List ℕ) (limit : ℕ) (enough : rows t ≤ limit) (few : limit ≤ LIMIT) where
  verdict_enough : run_verdict t buffer limit ≡ run_verdict t buffer LIMIT
  unfolding run_verdict run_reasons limit_reasons
  verdict_enough = rw (le-ltb LIMIT limit few)

  module _ (ok : Accepted t) where
    low_reads : (x : ℕ) → Low limit LIMIT x (look t x)
    low_reads =
        reads_low limit LIMIT t (λ (x : ℕ) (l : x < rows t → ⊥). look_past t x (rw ok.head.size (place_grows (omega arith)))) enough (omega arith)

    names_below : NamesBelow (look t)
    names_below = formed_below (modulus t) (look t) (formed t ok)

    pub fresh_enough : fresh_rows limit t ≡ fresh_rows LIMIT t
    unfolding fresh_rows result
    fresh_enough =
        renewed_enough (modulus t) limit LIMIT (λ x. true) (look t) (look t) names_below (λ x h. names_below x) (fresh_formed limit t ok) low_reads

    fresh_compared_lem : fresh_compared limit t ≡ fresh_compared LIMIT t
    unfolding fresh_compared fresh_rows result
    fresh_compared_lem =
        rows_enough (modulus t) limit LIMIT (λ x. true) (look t) (look t) names_below (λ x h. names_below x) (fresh_formed limit t ok) low_reads (rows t)

    fresh_removed_lem : fresh_removed limit t ≡ fresh_removed LIMIT t
    unfolding fresh_removed
    fresh_removed_lem = rw fresh_enough

    fresh_bytes_lem : fresh_bytes limit t buffer ≡ fresh_bytes LIMIT t buffer
    unfolding fresh_bytes
    fresh_bytes_lem = rw fresh_enough

  pub run_enough : (run_answer t buffer limit ≡ run_answer t buffer LIMIT) × (run_result t buffer limit ≡ run_result t buffer LIMIT)
  unfolding run_answer run_result answered if_accepted
  run_enough =
      test_case (is_accepted (run_verdict t buffer LIMIT))
      (λ (h : is_accepted (run_verdict t buffer LIMIT) ≡ true).
      let ok : Accepted t = accepted_gives t (run_granted t buffer LIMIT h).table in (
        rw (verdict_enough, fresh_removed_lem ok, fresh_compared_lem ok),
        rw (verdict_enough, fresh_bytes_lem ok),
      ))
      (λ (h : is_accepted (run_verdict t buffer LIMIT) ≡ false). (rw (verdict_enough, h), rw (verdict_enough, h)))

-- an edit, over any kept result
module _ (t kept : List ℕ) (r : ℕ) (new : List ℕ) (limit : ℕ) (enough : rows t ≤ limit) (few : limit ≤ LIMIT) where
  abbrev e : List ℕ
  e = edited t r new

  edit_verdict_enough : edit_verdict t kept r new limit ≡ edit_verdict t kept r new LIMIT
  unfolding edit_verdict edit_reasons limit_reasons
  edit_verdict_enough = rw (le-ltb LIMIT limit few)

  module _ (granted : is_accepted (edit_verdict t kept r new limit) ≡ true) where
    edited_low_reads : (x : ℕ) → Low limit LIMIT x (look e x)
    edited_low_reads =
        let many : rows e ≤ limit = rw (edited_count t kept r new limit granted) enough in
        reads_low limit LIMIT e (edited_past t kept r new limit granted) many (omega arith)

    edited_names_below : NamesBelow (look e)
    edited_names_below = formed_below (modulus e) (look e) (formed e (edited_ok t kept r new limit granted))

    edited_enough : edited_rows limit t e r kept ≡ edited_rows LIMIT t e r kept
    unfolding edited_rows
    edited_enough =
        renewed_enough (modulus e) limit LIMIT (is_touched t e r) (look e) (look (kept_part e kept)) edited_names_below (λ x h. kept_below t kept r new limit granted x)
        (edited_formed t kept r new limit granted) edited_low_reads

    edited_compared_lem : edited_compared limit t e r kept ≡ edited_compared LIMIT t e r kept
    unfolding edited_compared edited_rows
    edited_compared_lem =
        rows_enough (modulus e) limit LIMIT (is_touched t e r) (look e) (look (kept_part e kept)) edited_names_below (λ x h. kept_below t kept r new limit granted x)
        (edited_formed t kept r new limit granted) edited_low_reads (rows e)

    edited_removed_lem : edited_removed limit t e r kept ≡ edited_removed LIMIT t e r kept
    unfolding edited_removed
    edited_removed_lem = rw edited_enough

    edited_bytes_lem : edited_bytes limit t e r kept ≡ edited_bytes LIMIT t e r kept
    unfolding edited_bytes
    edited_bytes_lem = rw edited_enough

  pub edit_enough : (edit_answer t kept r new limit ≡ edit_answer t kept r new LIMIT) × (edit_table t kept r new limit ≡ edit_table t kept r new LIMIT) ×
      (edit_kept t kept r new limit ≡ edit_kept t kept r new LIMIT)
  unfolding edit_answer edit_table edit_kept answered if_accepted
  edit_enough =
      test_case (is_accepted (edit_verdict t kept r new LIMIT))
      (λ (h : is_accepted (edit_verdict t kept r new LIMIT) ≡ true).
      let granted : is_accepted (edit_verdict t kept r new limit) ≡ true = ap is_accepted edit_verdict_enough ∙ h in (
        rw (edit_verdict_enough, edited_removed_lem granted, edited_compared_lem granted),
        rw edit_verdict_enough,
        rw (edit_verdict_enough, edited_bytes_lem granted),
      ))
      (λ (h : is_accepted (edit_verdict t kept r new LIMIT) ≡ false).
      (rw (edit_verdict_enough, h), rw (edit_verdict_enough, h), rw (edit_verdict_enough, h)))
