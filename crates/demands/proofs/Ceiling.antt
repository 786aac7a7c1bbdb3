-- A ceiling on the walk, of bytes: document 02, A8. The number of stores compared that an accepted run answers is the number that the walk's definition compares, READ
-- row by READ row, over the rows that the run leaves; an accepted edit's is that of the READ rows which it works out anew, over the rows that it leaves. It is at
-- most the limit times those rows.
use Prim.Native.Nat.{ℕ, ◌*◌, ◌≤◌}
use native.Mathlib.Nat.{zero-mul}
use native.Mathlib.Omega.{arith}
use mathlib.Core.Path.{◌≡◌, ap, sym, ◌∙◌}
use mathlib.Core.Bool.{true, false, cond, not, ◌&&◌}
use mathlib.Core.List.{List}
use lib.ListN.{length}
use Rattle.basis.specs.Count.{count_where, total}
use Rattle.basis.proofs.Counts.{count_constant}
use Rattle.basis.proofs.Pick.{pick_case, pick_true, test_case}
use Rattle.range.specs.declared.Range.{Range}
use Rattle.table.specs.Refusals.{rows}
use Rattle.table.specs.Accepted.{Accepted}
use Rattle.table.proofs.Accepts.{accepted_gives}
use Rattle.term.specs.Term.{Term, read, is_read}
use Rattle.term.specs.Base.{plain}
use Rattle.term.specs.Relation.{range_of}
use Rattle.term.specs.Walk.{walk, compared}
use Rattle.term.specs.Rule.{read_by}
use Rattle.term.specs.Result.{removed_rows}
use Rattle.term.specs.Compared.{compared_by, compared_rows}
use Rattle.term.specs.Bytes.{look, edited}
use Rattle.term.proofs.Compared.{compared_rows_most, none_compared}
use Rattle.judge.specs.Verdict.{is_accepted}
use Rattle.judge.specs.Run.{run_verdict}
use Rattle.judge.proofs.Granted.{run_granted}
use Rattle.simplify.specs.Answer.{modulus, answer, if_accepted, answered}
use Rattle.simplify.specs.Run.{fresh_rows, fresh_removed, fresh_compared, run_answer, run_result}
use Rattle.simplify.specs.Edit.{edit_verdict, is_touched, edited_rows, edited_compared, edit_answer, edit_table, edit_kept}
use Rattle.demands.specs.Own.{rows_in}
use Rattle.demands.proofs.Demand2.{rows_left}
use Rattle.demands.proofs.Demand3.{table_left}
use Rattle.demands.proofs.ReadWalks.{read_is, ranges, stores, walk_made_row, as_many_as_compared}
use Rattle.demands.proofs.AfterEdit.{rows_after}

-- what a row of the table compares over rows f with ranges g: a READ what its walk does, any other row nothing
module _ (limit : ℕ) (f : ℕ → Term) (g : ℕ → Range) (u : Term) where
  pub read_compares : (m i : ℕ) → u ≡ read m i → compared_by limit f g u ≡ compared (walk f g i limit m)
  unfolding compared_by
  read_compares m i is = ap (compared_by limit f g) is

  pub other_compares_none : is_read u ≡ false → compared_by limit f g u ≡ 0
  other_compares_none other = sym (none_compared limit f g u other)

-- ---- a run

module _ (t buffer : List ℕ) (limit : ℕ) where
  module _ (granted : is_accepted (run_verdict t buffer limit) ≡ true) where
    pub run_compares : (run_answer t buffer limit).compared ≡
        total (λ x. compared_by limit (rows_in t (run_result t buffer limit)) (range_of (modulus t) (rows_in t (run_result t buffer limit))) (look t x)) (rows t)
    unfolding run_answer answered if_accepted answer fresh_compared compared_rows
    run_compares = pick_true (is_accepted (run_verdict t buffer limit)) _ _ granted ∙ rw (rows_left t buffer limit granted)

    -- what row x compares, if it is READ m i: as many stores as its walk met, which at 1,024 are those that `why` lists (Why's `list_is_walk`)
    pub compares_listed : (x m i : ℕ) → look t x ≡ read m i →
        compared_by limit (rows_in t (run_result t buffer limit)) (range_of (modulus t) (rows_in t (run_result t buffer limit))) (look t x) ≡ length (stores limit t m i)
    compares_listed x m i is =
        rw (rows_left t buffer limit granted)
        (read_compares limit (fresh_rows limit t) (ranges limit t) (look t x) m i is ∙
        sym (as_many_as_compared limit t (accepted_gives t (run_granted t buffer limit granted).table) x m i is))

  -- at most the limit for each READ row of the table; for every input
  pub run_compares_most : (run_answer t buffer limit).compared ≤ limit * count_where (λ x. is_read (look t x)) (rows t)
  unfolding run_answer answered if_accepted answer fresh_compared
  run_compares_most =
      pick_case (λ (k : ℕ). k ≤ limit * count_where (λ x. is_read (look t x)) (rows t)) (is_accepted (run_verdict t buffer limit))
      (λ h. compared_rows_most (modulus t) limit (λ x. true) (look t) (fresh_rows limit t) (rows t)) (λ h. omega arith)

-- ---- an edit, over any kept result

module _ (t kept : List ℕ) (r : ℕ) (new : List ℕ) (limit : ℕ) where
  abbrev e : List ℕ
  e = edited t r new

  module _ (granted : is_accepted (edit_verdict t kept r new limit) ≡ true) where
    left_compares : (edit_answer t kept r new limit).compared ≡
        total (λ x. cond (is_touched t e r x) (compared_by limit (edited_rows limit t e r kept) (range_of (modulus e) (edited_rows limit t e r kept)) (look e x)) 0) (rows e)
    unfolding edit_answer answered if_accepted answer edited_compared compared_rows
    left_compares = pick_true (is_accepted (edit_verdict t kept r new limit)) _ _ granted

    -- after the edit, f being the rows of the kept result as they stand: each touched READ row what its walk over them compares
    pub edit_compares :
        let after : List ℕ = edit_table t kept r new limit in
        let f : ℕ → Term = rows_in after (edit_kept t kept r new limit) in
        (edit_answer t kept r new limit).compared ≡ total (λ x. cond (is_touched t after r x) (compared_by limit f (range_of (modulus after) f) (look after x)) 0) (rows after)
    edit_compares = rw (rows_after t kept r new limit granted, table_left t kept r new limit granted) left_compares

  -- at most the limit for each READ row that is worked out anew; for every input
  pub edit_compares_most :
      (edit_answer t kept r new limit).compared ≤
      limit * count_where (λ x. is_touched t (edited t r new) r x && is_read (look (edited t r new) x)) (rows (edited t r new))
  unfolding edit_answer answered if_accepted answer edited_compared
  edit_compares_most =
      pick_case (λ (k : ℕ). k ≤ limit * count_where (λ x. is_touched t e r x && is_read (look e x)) (rows e)) (is_accepted (edit_verdict t kept r new limit))
      (λ h. compared_rows_most (modulus e) limit (is_touched t e r) (look e) (edited_rows limit t e r kept) (rows e)) (λ h. omega arith)

-- ---- the limit 0: nothing is compared, and every READ stays at its array, with the plain name of its index

pub run_compares_none : (t buffer : List ℕ) → (run_answer t buffer 0).compared ≡ 0
run_compares_none t buffer = omega (arith, run_compares_most t buffer 0, zero-mul (count_where (λ x. is_read (look t x)) (rows t)))

pub edit_compares_none : (t kept : List ℕ) (r : ℕ) (new : List ℕ) → (edit_answer t kept r new 0).compared ≡ 0
edit_compares_none t kept r new =
    let reads : ℕ = count_where (λ x. is_touched t (edited t r new) r x && is_read (look (edited t r new) x)) (rows (edited t r new)) in
    omega (arith, edit_compares_most t kept r new 0, zero-mul reads)

module _ (t buffer : List ℕ) (granted : is_accepted (run_verdict t buffer 0) ≡ true) where
  ok : Accepted t
  ok = accepted_gives t (run_granted t buffer 0 granted).table

  fresh_stays : (x m i : ℕ) → look t x ≡ read m i → fresh_rows 0 t x ≡ read m (plain (fresh_rows 0 t) i)
  unfolding walk read_by
  fresh_stays x m i is = walk_made_row 0 t ok x m i is

  pub reads_stay : (x m i : ℕ) → look t x ≡ read m i → rows_in t (run_result t buffer 0) x ≡ read m (plain (rows_in t (run_result t buffer 0)) i)
  reads_stay x m i is = rw (rows_left t buffer 0 granted) (fresh_stays x m i is)

  pub none_removed : (run_answer t buffer 0).removed ≡ 0
  unfolding run_answer answered if_accepted answer fresh_removed removed_rows is_read
  none_removed =
      pick_true (is_accepted (run_verdict t buffer 0)) _ _ granted ∙
      count_constant false (λ x. is_read (look t x) && not (is_read (fresh_rows 0 t x))) (rows t)
      (λ x l.
      test_case (is_read (look t x))
      (λ (h : is_read (look t x) ≡ true).
      let is = read_is (look t x) h in
      rw (h, fresh_stays x is.0 is.1 is.2))
      (λ (h : is_read (look t x) ≡ false). rw h))
