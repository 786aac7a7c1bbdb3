-- The list of one read: what its parts ask, and that its lines are the list.
use Prim.Native.Nat.{ℕ, suc, ◌+◌, ◌*◌, ◌^◌, ◌≤◌}
use native.Mathlib.Nat.{le_refl}
use native.Mathlib.Omega.{arith}
use mathlib.Core.Path.{◌≡◌, refl, sym, ap, ◌∙◌}
use mathlib.Core.Bool.{true, true≢false}
use mathlib.Core.List.{List}
use lib.ListN.{length}
use Rattle.range.specs.declared.Range.{Range}
use Rattle.range.specs.Store.{kept}
use Rattle.in_bytes.specs.Numbers.{Read}
use Rattle.row.specs.declared.Row.{Row}
use Rattle.row.specs.Names.{HEADER, LENGTH, place}
use Rattle.row.specs.Bytes.{row_at, source_at, Decoded}
use Rattle.row.proofs.Places.{header_below}
use Rattle.table.specs.Refusals.{width}
use Rattle.walks.specs.declared.relation.Index.{Index}
use Rattle.walks.specs.Ready.{NamesBelow, Reached, Standing, Sought}
use Rattle.walks.proofs.Reach.{row_room, row_reached}
use Rattle.walks.proofs.Terms.{term_case}
use Rattle.judge.specs.Run.{LIMIT}
use Rattle.simplify.specs.Answer.{modulus}
use Rattle.term.specs.Term.{Term, read, term_of, is_read}
use Rattle.term.specs.Bytes.{look}
use Rattle.text.specs.declared.Text.{Text}
use Rattle.text.specs.Text.{Wrote}
use Rattle.text.proofs.Puts.{wrote_then}
use Rattle.listing.specs.List.{read_line, result_line, list, list_for, most}
use Rattle.tracing.specs.Ready.{Telling, Listable}
use Rattle.tracing.proofs.Steps.{lines}

-- a row that is a READ reads the array a at the index b
read_row : (x : Row) → is_read (term_of x) ≡ true → term_of x ≡ read x.a x.b
unfolding is_read
read_row x =
    term_case (λ (t : Term). is_read t ≡ true → t ≡ read x.a x.b) x
    (λ e. absurd (true≢false (sym e))) (λ e. absurd (true≢false (sym e))) (λ e. absurd (true≢false (sym e))) (λ e. absurd (true≢false (sym e)))
    (λ e. absurd (true≢false (sym e))) (λ e. absurd (true≢false (sym e))) (λ e. absurd (true≢false (sym e))) (λ e. refl)
    (λ e. absurd (true≢false (sym e))) (λ k e. absurd (true≢false (sym e)))

pub list_header : (T R : List ℕ) (r : ℕ) → Listable T R r → HEADER ≤ length T
list_header T R r given = omega (arith, header_below r, given.room)

module _ (T R : List ℕ) (S : List Range) (from : Text) (r : ℕ) (given : Listable T R r) {x : Row} (row : Decoded T r x) where
  term_is : look T r ≡ term_of x
  unfolding look
  term_is = ap term_of (sym row.is)

  reads : look T r ≡ read x.a x.b
  reads = term_is ∙ read_row x (rw term_is at given.reads)

  names : NamesBelow r (read x.a x.b)
  names = rw reads at given.names

  pub list_index : Reached R x.b
  list_index = row_reached R (suc r) x.b given.rows (omega (arith, names.1))

  standing : Standing R r
  unfolding place
  standing = record {
    few = omega (arith, given.rows.few);
    room = omega (arith, given.rows.room);
    names = λ y h. given.rows.names y (omega arith);
  }

  pub list_result : place r + LENGTH ≤ length R
  list_result = row_room R (suc r) r given.rows (le_refl (suc r))

  module _ {source : ℕ} (recorded : Read (source_at T r) (2 ^ 32) source) {begun : Text}
      (head : Wrote from (read_line source r x.a x.b) 116 begun) where
    pub list_walks : {j : Index} → from.at ≡ 0 → j.row ≡ x.b → Sought (look R) (kept S) j → Telling T R S begun.at LIMIT r j x.a
    list_walks first row sought = record {
      room = given.room;
      walking = record { rows = standing; index = sought; below = names.0 };
      sought = rw row names.1;
      early = omega (arith, head.put.few);
      few = le_refl LIMIT;
    }

    module _ (top : ℕ) (top_is : top + 1 ≡ 2 ^ width T) {i : ℕ} (row_is : i ≡ x.b) {told : Text}
        (walk_told : Wrote begun (lines (top + 1) (look R) (kept S) (source_at T) i LIMIT x.a) (256 * LIMIT + 40) told) where
      walked : Wrote begun (lines (top + 1) (look R) (kept S) (source_at T) x.b LIMIT x.a) (256 * LIMIT + 40) told
      walked = rw row_is at walk_told

      pub list_done : {y : Row} {done : Text} → Decoded R r y → Wrote told (result_line r y source) 175 done
          → Wrote from (list_for (modulus T) LIMIT (look R) (kept S) (source_at T) r (row_at R r) (look T r)) (most (LIMIT + 1)) done
      unfolding list_for list modulus
      list_done y_is last =
          rw (reads, ← top_is, ← y_is.is, ← recorded.is) (wrote_then {i = 256 * LIMIT + 156} (wrote_then head walked (le_refl _)) last (omega arith))
