-- Demand 3, of bytes: after an accepted edit a kept result that was the table's own, made with the same limit, is, byte for byte, what a fresh run of the edited
-- table with that limit leaves there, and is the edited table's own; so after any number of accepted edits with that limit. A row that is not r and does not lead
-- back to r keeps its bytes, in any kept result and with any limit.
use Prim.Native.Nat.{ℕ, ◌≤◌}
use mathlib.Core.Path.{◌≡◌, ap, sym, ◌∙◌}
use mathlib.Core.Bool.{true, false}
use mathlib.Core.Logic.{◌⊎◌, ⊎_elim}
use mathlib.Core.List.{List}
use lib.ListN.{length, take}
use lib.Seq.{length-sets}
use Rattle.basis.proofs.Pick.{pick_true, test_case}
use Rattle.row.specs.Names.{HEADER, place}
use Rattle.row.specs.Bytes.{source_at}
use Rattle.row.proofs.Places.{header_below}
use Rattle.row.proofs.Rows.{take_stays}
use Rattle.table.specs.Refusals.{rows, refuse, accepted, check_table}
use Rattle.table.specs.Accepted.{Accepted}
use Rattle.table.proofs.Accepts.{accepted_gives}
use Rattle.term.specs.Leads.{LeadsBack}
use Rattle.term.specs.Seen.{seen}
use Rattle.term.specs.Bytes.{look, edited}
use Rattle.term.proofs.Names.{NamesBelow}
use Rattle.term.proofs.WellFormed.{formed_below}
use Rattle.term.proofs.Touched.{touched_in_is, is-touched-in}
use Rattle.term.proofs.Looked.{edited_others}
use Rattle.term.proofs.Accepted.{accepted_formed}
use Rattle.term.proofs.There.{row_bytes, rows_stay}
use Rattle.judge.specs.Verdict.{is_accepted}
use Rattle.judge.specs.Run.{LIMIT, run_verdict}
use Rattle.judge.proofs.Verdicts.{table_passes, head_same}
use Rattle.judge.proofs.Granted.{RunGranted, run_granted, grant_run}
use Rattle.simplify.specs.Run.{fresh_bytes, run_result}
use Rattle.simplify.specs.Edit.{edit_verdict, is_touched, edited_rows, edited_bytes, edit_table, edit_kept}
use Rattle.simplify.proofs.Granted.{EditGranted, edit_granted}
use Rattle.demands.specs.Own.{Own, Edits, none, one}
use Rattle.simplify.proofs.FreshRun.{fresh_length}
use Rattle.demands.proofs.Fresh.{run_leaves, fresh_head, fresh_there, fresh_again}
use Rattle.demands.proofs.EditIsRun.{edited_bytes_lem}

-- an accepted run leaves the fresh result, which is the table's own
fresh_owned : (limit : ℕ) (t buffer : List ℕ) → check_table t ≡ accepted → length t ≤ length buffer → limit ≤ LIMIT → Own limit t (fresh_bytes limit t buffer)
fresh_owned limit t buffer passes room few =
    let ok : Accepted t = accepted_gives t passes in
    let granted : is_accepted (run_verdict t (fresh_bytes limit t buffer) limit) ≡ true =
    grant_run t (fresh_bytes limit t buffer) limit passes (rw (fresh_length limit t buffer) room) few in
    record {
      accepted = granted;
      settled =
          run_leaves t (fresh_bytes limit t buffer) limit granted ∙
          fresh_again limit t (fresh_bytes limit t buffer) (fresh_head limit t buffer ok room) (fresh_there limit t buffer ok room);
    }

pub run_owned : (t buffer : List ℕ) (limit : ℕ) → is_accepted (run_verdict t buffer limit) ≡ true → Own limit t (run_result t buffer limit)
run_owned t buffer limit granted =
    let is : RunGranted t buffer limit = run_granted t buffer limit granted in
    rw (run_leaves t buffer limit granted) (fresh_owned limit t buffer is.table is.roomy.room is.few)

-- the edit of row r, accepted
module _ (t kept : List ℕ) (r : ℕ) (replacement : List ℕ) (limit : ℕ) (granted : is_accepted (edit_verdict t kept r replacement limit) ≡ true) where
  abbrev e : List ℕ
  e = edited t r replacement

  is : EditGranted t kept r replacement limit
  is = edit_granted t kept r replacement limit granted

  pub edited_long : length (edited t r replacement) ≡ length t
  unfolding edited
  edited_long = length-sets t (place r) replacement

  pub edited_head : take HEADER (edited t r replacement) ≡ take HEADER t
  unfolding edited
  edited_head = take_stays t r replacement is.ready.long HEADER (header_below r)

  pub edited_passes : check_table (edited t r replacement) ≡ accepted
  unfolding accepted refuse
  edited_passes = table_passes e accepted (head_same e t edited_long edited_head ∙ is.ready.roomy.head) (ap (λ v. v.number) is.rows_pass)

  ok : Accepted e
  ok = accepted_gives e edited_passes

  pub table_left : edit_table t kept r replacement limit ≡ edited t r replacement
  unfolding edit_table
  table_left = pick_true (is_accepted (edit_verdict t kept r replacement limit)) _ _ granted

  pub kept_left : edit_kept t kept r replacement limit ≡ edited_bytes limit t (edited t r replacement) r kept
  unfolding edit_kept
  kept_left = pick_true (is_accepted (edit_verdict t kept r replacement limit)) _ _ granted

  pub edited_room : place (rows (edited t r replacement)) ≤ length kept
  edited_room = rw (← ok.head.size, edited_long) is.ready.roomy.room

  -- the touched rows are row r and those that lead back to it, names followed, in the table as it stood before or as it stands after
  alike : (x : ℕ) → (x ≡ r → ⊥) → look t x ≡ look e x
  alike = edited_others t r replacement is.ready.long

  below : NamesBelow (look e)
  below = formed_below _ (look e) (accepted_formed e ok)

  pub edited_touched : (x : ℕ) → (x ≡ r) ⊎ LeadsBack (seen (look t)) r x ⊎ LeadsBack (seen (look (edited t r replacement))) r x →
      is_touched t (edited t r replacement) r x ≡ true
  unfolding is_touched
  edited_touched = is-touched-in (look t) (look e) r alike below

  -- a row that is not r and does not lead back to r, names followed, in the table as it stood before or as it stands after
  pub others_stay : (x : ℕ) → (x ≡ r → ⊥) → (LeadsBack (seen (look t)) r x → ⊥) → (LeadsBack (seen (look (edit_table t kept r replacement limit))) r x → ⊥) →
      row_bytes (edit_kept t kept r replacement limit) x ≡ row_bytes kept x
  unfolding edited_bytes is_touched
  others_stay x other apart_before apart_after =
      ap (λ (l : List ℕ). row_bytes l x) kept_left ∙
      rows_stay (edited_rows limit t e r kept) (source_at e) (is_touched t e r) (rows e) kept x
      (test_case (is_touched t e r x)
      (λ (h : is_touched t e r x ≡ true).
      absurd (⊎_elim other (⊎_elim apart_before (rw table_left at apart_after))
      (touched_in_is (look t) (look e) r alike below x h)))
      (λ (h : is_touched t e r x ≡ false). h))

  module _ (own : Own limit t kept) where
    fresh_left : edit_kept t kept r replacement limit ≡ fresh_bytes limit e kept
    fresh_left = kept_left ∙ edited_bytes_lem t kept r replacement is.ready.long own ok

    room : length e ≤ length kept
    room = rw edited_long is.ready.roomy.room

    -- byte for byte what a fresh run of the edited table leaves there
    pub edit_is_fresh_run : edit_kept t kept r replacement limit ≡ run_result (edit_table t kept r replacement limit) kept limit
    edit_is_fresh_run = rw table_left (fresh_left ∙ sym (run_leaves e kept limit (grant_run e kept limit edited_passes room is.ready.few)))

    -- and so the edited table's own
    pub edit_owned : Own limit (edit_table t kept r replacement limit) (edit_kept t kept r replacement limit)
    edit_owned = rw (table_left, fresh_left) (fresh_owned limit e kept edited_passes room is.ready.few)

-- after any number of accepted edits
pub edits_owned : {limit : ℕ} {t kept t' kept' : List ℕ} → Edits limit t kept t' kept' → Own limit t kept → Own limit t' kept'
edits_owned none own = own
edits_owned {limit} (one {t} {kept} r replacement granted later) own = edits_owned later (edit_owned t kept r replacement limit granted own)
