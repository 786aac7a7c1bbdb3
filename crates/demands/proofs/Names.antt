-- Rows of one name, of bytes: document 02, A2. A later VAR of a name leaves SHIFT of the first by 0: in a fresh run, and to the letter in an edit over any kept
-- result. So a register subtracted from itself cancels, wherever it was recorded.
use Prim.Native.Nat.{ℕ, ◌<◌}
use mathlib.Core.Path.{◌≡◌, refl, sym, ap, ap₂, ◌∙◌, subst}
use mathlib.Core.Bool.{true, false}
use mathlib.Core.Logic.{◌⊎◌}
use mathlib.Core.List.{List}
use Rattle.basis.proofs.Pick.{test_case, pick_true}
use Rattle.word.specs.Word.{plus, minus}
use Rattle.word.proofs.Words.{plus_comm, plus_zero, minus_self}
use Rattle.row.specs.Bytes.{source_at, bytes_of}
use Rattle.table.specs.Refusals.{rows}
use Rattle.table.specs.Accepted.{Accepted}
use Rattle.table.proofs.Accepts.{accepted_gives}
use Rattle.range.specs.declared.Range.{Range}
use Rattle.term.specs.Term.{Term, const, shift, diff, row_of, stated_by}
use Rattle.term.specs.Seen.{first_row, is_later, seen}
use Rattle.term.specs.Base.{One, base_of, offset_of, base, offset}
use Rattle.term.specs.Relation.{range_of}
use Rattle.term.specs.Rule.{diff_rule, rule}
use Rattle.term.specs.Result.{rule_at, simplified}
use Rattle.term.specs.Leads.{LeadsBack}
use Rattle.term.specs.WellFormed.{Fits}
use Rattle.term.specs.Bytes.{look, edited}
use Rattle.term.proofs.Bases.{base_same}
use Rattle.term.proofs.Seen.{stated_case, own_first, first_row_shared, by_name_own, by_name_later, by_name_bare}
use Rattle.term.proofs.Renewed.{renewed_later, result_eq}
use Rattle.term.proofs.WellFormed.{formed_below}
use Rattle.term.proofs.There.{row_bytes, rows_there}
use Rattle.term.proofs.Acceptable.{same_rows}
use Rattle.judge.specs.Verdict.{is_accepted}
use Rattle.judge.specs.Run.{run_verdict}
use Rattle.judge.proofs.Granted.{run_granted}
use Rattle.simplify.specs.Answer.{modulus}
use Rattle.simplify.specs.Run.{fresh_rows, run_result}
use Rattle.simplify.specs.Edit.{edit_verdict, is_touched, edited_rows, edited_bytes, edit_table, edit_kept}
use Rattle.demands.specs.Own.{rows_in}
use Rattle.demands.proofs.Demand2.{formed, positive, rows_left}
use Rattle.demands.proofs.Demand3.{edited_head, edited_room, edited_touched, table_left, kept_left}

-- what states a name is made of itself, and is its own base
named_rule : (M limit : ℕ) (f : ℕ → Term) (g : ℕ → Range) (u : Term) → (stated_by u ≡ 0 → ⊥) → rule M limit f g u ≡ u
unfolding rule
named_rule M limit f g = stated_case (λ u. rule M limit f g u ≡ u) (λ name k h. refl)

named_base : (x : ℕ) (u : Term) → (stated_by u ≡ 0 → ⊥) → (base_of x u ≡ One x) × (offset_of u ≡ 0)
unfolding base_of offset_of
named_base x = stated_case (λ u. (base_of x u ≡ One x) × (offset_of u ≡ 0)) (λ name k h. (refl, refl))

-- a fresh run of the table t into the buffer, accepted
module _ (t buffer : List ℕ) (limit : ℕ) (granted : is_accepted (run_verdict t buffer limit) ≡ true) where
  ok : Accepted t
  ok = accepted_gives t (run_granted t buffer limit granted).table

  row_eq : (x : ℕ) → fresh_rows limit t x ≡ simplified (modulus t) limit (look t) (fresh_rows limit t) x
  unfolding fresh_rows
  row_eq = result_eq (modulus t) limit (look t) (formed_below (modulus t) (look t) (formed t ok))

  fresh_later : (x : ℕ) → is_later (look t) x ≡ true → fresh_rows limit t x ≡ shift (first_row (look t) x) 0
  unfolding simplified rule_at
  fresh_later x later = row_eq x ∙ by_name_later (look t) x later _

  left : (x : ℕ) → rows_in t (run_result t buffer limit) x ≡ fresh_rows limit t x
  left x = ap (λ (f : ℕ → Term). f x) (rows_left t buffer limit granted)

  -- a later VAR of a name
  pub later_is_shift : (x : ℕ) → is_later (look t) x ≡ true → rows_in t (run_result t buffer limit) x ≡ shift (first_row (look t) x) 0
  later_is_shift x later = left x ∙ fresh_later x later

  -- the first VAR of a name, and a VAR of its own
  fresh_first : (x : ℕ) → (stated_by (look t x) ≡ 0 → ⊥) → is_later (look t) x ≡ false → fresh_rows limit t x ≡ look t x
  unfolding simplified rule_at
  fresh_first x named own =
      row_eq x ∙ by_name_own (look t) x own _ ∙ named_rule (modulus t) limit (fresh_rows limit t) (range_of (modulus t) (fresh_rows limit t)) (look t x) named

  pub first_stays : (x : ℕ) → (stated_by (look t x) ≡ 0 → ⊥) → is_later (look t) x ≡ false → rows_in t (run_result t buffer limit) x ≡ look t x
  first_stays x named own = left x ∙ fresh_first x named own

  -- either way its base is the first, its offset 0
  first_is_base : (x : ℕ) → (stated_by (look t x) ≡ 0 → ⊥) → (base (fresh_rows limit t) x ≡ One (first_row (look t) x)) × (offset (fresh_rows limit t) x ≡ 0)
  unfolding base offset base_of offset_of
  first_is_base x named =
      test_case (is_later (look t) x)
      (λ (later : is_later (look t) x ≡ true). (ap (base_of x) (fresh_later x later), ap offset_of (fresh_later x later)))
      (λ (own : is_later (look t) x ≡ false).
      let here = named_base x (look t x) named in (
        ap (base_of x) (fresh_first x named own) ∙ here.0 ∙ ap One (sym (own_first (look t) x own)),
        ap offset_of (fresh_first x named own) ∙ here.1,
      ))

  -- a row minus another of its name, plus k: the constant k
  pub register_cancels : (x y z k : ℕ) → look t z ≡ diff x y k → (stated_by (look t x) ≡ 0 → ⊥) → stated_by (look t x) ≡ stated_by (look t y) →
      rows_in t (run_result t buffer limit) z ≡ const k
  unfolding simplified rule_at rule diff_rule stated_by
  register_cancels x y z k is named same =
      let M : ℕ = modulus t in
      let at_x = first_is_base x named in
      let at_y = first_is_base y (λ e. named (same ∙ e)) in
      let word : Fits M (diff x y k) = subst (Fits M) is ((formed t ok).fits z) in
      left z ∙ row_eq z ∙ by_name_bare (look t) z (ap stated_by is) _ ∙ ap (rule M limit (fresh_rows limit t) (range_of M (fresh_rows limit t))) is ∙
      pick_true _ _ _ (base_same _ _ (at_x.0 ∙ ap One (first_row_shared (look t) x y named same) ∙ sym at_y.0)) ∙
      ap₂ (λ (p q : ℕ). const (plus M (minus M p q) k)) at_x.1 at_y.1 ∙
      ap (λ (d : ℕ). const (plus M d k)) (minus_self M (positive t) 0) ∙
      ap const (plus_comm M (positive t) 0 k ∙ plus_zero M (positive t) k word)

-- an edit of row r, accepted, over any kept result: a row that is worked out anew and is a later VAR of a name in the edited table
module _ (t kept : List ℕ) (r : ℕ) (new : List ℕ) (limit : ℕ) (granted-edit : is_accepted (edit_verdict t kept r new limit) ≡ true) where
  abbrev e : List ℕ
  e = edited t r new

  later_left : (x : ℕ) → x < rows t → (x ≡ r) ⊎ LeadsBack (seen (look t)) r x ⊎ LeadsBack (seen (look e)) r x → is_later (look e) x ≡ true →
      row_bytes (edit_kept t kept r new limit) x ≡ bytes_of (row_of (shift (first_row (look e) x) 0)) (source_at e x)
  unfolding edited_bytes edited_rows
  later_left x l led later =
      let touched : is_touched t e r x ≡ true = edited_touched t kept r new limit granted-edit x led in
      ap (λ (b : List ℕ). row_bytes b x) (kept_left t kept r new limit granted-edit) ∙
      rows_there (edited_rows limit t e r kept) (source_at e) (is_touched t e r) (rows e) kept (edited_room t kept r new limit granted-edit) x
      (rw (same_rows e t (edited_head t kept r new limit granted-edit)) l) touched ∙
      ap (λ (u : Term). bytes_of (row_of u) (source_at e x)) (renewed_later (modulus e) limit (is_touched t e r) (look e) _ x touched later)

  pub edited_later : (x : ℕ) → x < rows t → (x ≡ r) ⊎ LeadsBack (seen (look t)) r x ⊎ LeadsBack (seen (look (edit_table t kept r new limit))) r x →
      is_later (look (edit_table t kept r new limit)) x ≡ true →
      row_bytes (edit_kept t kept r new limit) x ≡ bytes_of (row_of (shift (first_row (look (edit_table t kept r new limit)) x) 0)) (source_at (edit_table t kept r new limit) x)
  edited_later = rw (table_left t kept r new limit granted-edit) later_left
