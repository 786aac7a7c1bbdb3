-- Each way out of the functions that judge: the number answered is that of the first reason that holds.
use Prim.Native.Nat.{ℕ, ◌+◌, ◌≤◌, ◌<◌}
use mathlib.Core.Path.{◌≡◌, sym, ◌∙◌}
use mathlib.Core.Bool.{true, false}
use mathlib.Core.List.{List, []}
use lib.ListN.{length}
use lib.Dec.{leb}
use borrow.Author.Tests.{le-leb, lt-leb, eq-eqb, ne_eqb}
use Rattle.basis.specs.Reason.{first}
use Rattle.basis.proofs.Reasons.{append_skips, append_here, first_here, first_skips}
use Rattle.row.specs.Names.{LENGTH, READ, place}
use Rattle.row.specs.Bytes.{row_at}
use Rattle.row.proofs.Places.{room_in}
use Rattle.table.specs.declared.Fault.{Fault}
use Rattle.table.specs.Verdict.{Verdict}
use Rattle.table.specs.Fault.{number_of}
use Rattle.table.proofs.Told.{fault_some}
use Rattle.table.specs.Refusals.{rows, refuse, accepted, given}
use Rattle.table.proofs.Heads.{good_head}
use Rattle.term.specs.Term.{is_read}
use Rattle.term.specs.Bytes.{look}
use Rattle.judge.specs.Run.{room_reasons}
use Rattle.judge.proofs.Granted.{room_numbered}
use Rattle.renew.proofs.Turning.{read_told}
use Rattle.explanation.specs.Why.{row_reasons, read_reasons}
use Rattle.explanation.specs.Ready.{There}

-- 1 to 7
module _ (t buffer : List ℕ) (x : ℕ) where
  pub row_room : (fault : Fault) → number_of fault ≡ first (room_reasons t buffer) → number_of fault ≡ first (row_reasons t buffer x)
  unfolding row_reasons
  row_room fault told = told ∙ sym (append_here (room_reasons t buffer) _ (λ z. fault_some fault (told ∙ z)))

  module _ (none : 0 ≡ first (room_reasons t buffer)) {n : ℕ} (is : n ≡ rows t) where
    pub row_beyond : n ≤ x → 7 ≡ first (row_reasons t buffer x)
    unfolding row_reasons
    row_beyond l =
        sym (append_skips (room_reasons t buffer) _ (room_numbered t buffer) (sym none) ∙ first_here 7 _ [] (le-leb (rows t) x (rw is at l)))

    pub row_fine : x < n → 0 ≡ first (row_reasons t buffer x)
    unfolding row_reasons first
    row_fine l =
        sym
        (append_skips (room_reasons t buffer) _ (room_numbered t buffer) (sym none) ∙
        first_skips 7 (leb (rows t) x) [] (lt-leb (rows t) x (rw is at l)))

-- 17
pub row_place : {t : List ℕ} {x : ℕ} → There t x → place x + LENGTH ≤ length t
row_place {t} at = room_in t at.row (good_head t at.head).size

module _ (t : List ℕ) (x : ℕ) {kind : ℕ} (told : kind ≡ (row_at t x).kind) where
  pub no_read : (kind ≡ READ → ⊥) → ◌≡◌ {A = Verdict} (record { number = 17; row = x }) (given (first (read_reasons t x)) x accepted)
  unfolding read_reasons given refuse first
  no_read h = let no : is_read (look t x) ≡ false = sym (read_told t x told) ∙ ne_eqb kind READ h in sym (rw no)

  pub is_read_lem : kind ≡ READ → ◌≡◌ {A = Verdict} (record { number = 0; row = 0 }) (given (first (read_reasons t x)) x accepted)
  unfolding read_reasons given accepted refuse first
  is_read_lem h = let yes : is_read (look t x) ≡ true = sym (read_told t x told) ∙ eq-eqb kind READ h in sym (rw yes)
