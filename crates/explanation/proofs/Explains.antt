-- The answer to a question that passes 1 to 17: what its parts ask, and that what they leave is what the promise says.
use Prim.Native.Nat.{ℕ, ◌+◌, ◌^◌, ◌≤◌, ◌<◌}
use native.Mathlib.Nat.{zero-add}
use native.Mathlib.Omega.{arith}
use mathlib.Core.Path.{◌≡◌, refl, sym, ap, ap₂, subst, ◌∙◌}
use mathlib.Core.Bool.{true}
use mathlib.Core.List.{List, ◌++◌}
use lib.ListN.{length, take, drop}
use lib.Seq.{sets, length-sets}
use lib.Pow.{pow_mono, pow_pos}
use Rattle.range.specs.declared.Range.{Range}
use Rattle.range.specs.Store.{kept}
use Rattle.row.specs.declared.Row.{Row}
use Rattle.row.specs.Names.{HEADER, place}
use Rattle.in_bytes.specs.Numbers.{Read}
use Rattle.row.specs.Bytes.{row_at, source_at, Small}
use Rattle.row.proofs.Places.{header_below, room_in}
use Rattle.walks.specs.Ready.{NamesBelow}
use Rattle.table.specs.Refusals.{MOST, LARGEST, width, rows}
use Rattle.table.specs.Accepted.{Accepted}
use Rattle.table.proofs.Accepts.{accepted_gives}
use Rattle.term.specs.Term.{Term, const, var, shift, sum, diff, neg, read, fresh, write, is_array, row_of}
use Rattle.term.specs.Relation.{range_of}
use Rattle.term.specs.WellFormed.{Names, Below, WellFormed}
use Rattle.term.specs.Bytes.{look}
use Rattle.term.proofs.Accepted.{accepted_formed}
use Rattle.term.proofs.Outcome.{run_names_small}
use Rattle.term.proofs.Looked.{small_term}
use Rattle.term.proofs.Placed.{put_rows_row}
use Rattle.term.proofs.WellFormed.{formed_below, result_sort, result_formed}
use Rattle.text.specs.Text.{Put}
use Rattle.judge.specs.Run.{LIMIT}
use Rattle.simplify.specs.Answer.{modulus}
use Rattle.copying.specs.Copy.{Rooms}
use Rattle.renew.specs.declared.Counts.{Counts}
use Rattle.simplify.specs.Fresh.{Freshly}
use Rattle.simplify.specs.Run.{fresh_rows, fresh_bytes}
use Rattle.simplify.proofs.FreshRun.{fresh_length}
use Rattle.explanation.specs.declared.Listing.{Listing}
use Rattle.listing.specs.List.{read_line, result_line, list, list_for, most}
use Rattle.tracing.specs.Ready.{Listable}
use Rattle.tracing.proofs.Local.{lines_local}
use Rattle.explanation.specs.Ready.{Explainable}
use Rattle.explanation.specs.Why.{list_of, listing, Explained}
use Rattle.explanation.proofs.Granted.{explained_short, explained_fits}
use Rattle.explanation.proofs.Restored.{restored}

module _ (t buffer : List ℕ) (x : ℕ) (can : Explainable t buffer x) where
  ok : Accepted t
  ok = accepted_gives t can.table

  pub explain_header : HEADER ≤ length t
  explain_header = rw ok.head.size (header_below (rows t))

  small : length t ≤ LARGEST
  unfolding place
  small = omega (arith, ok.head.size, ok.head.few)

  pub explain_saves : (space : List ℕ) → length space ≡ LARGEST → Rooms buffer 0 (length t) space 0
  explain_saves space long = record { source = omega (arith, can.room); target = omega (arith, small, long) }

  -- the rows of the fresh result
  formed : WellFormed (2 ^ width t) (fresh_rows LIMIT t)
  unfolding fresh_rows modulus
  formed = result_formed (2 ^ width t) LIMIT (pow_pos (width t)) (look t) (accepted_formed t ok)

  fresh_sort : (y : ℕ) → is_array (fresh_rows LIMIT t y) ≡ is_array (look t y)
  unfolding fresh_rows modulus
  fresh_sort = result_sort (2 ^ width t) LIMIT (pow_pos (width t)) (look t) (accepted_formed t ok)

  below : (y : ℕ) → NamesBelow y (fresh_rows LIMIT t y)
  below = formed_below (2 ^ width t) (fresh_rows LIMIT t) formed

  fits_fields : (y : ℕ) → y < rows t → Small (row_of (fresh_rows LIMIT t y))
  unfolding fresh_rows modulus
  fits_fields y l =
      small_term (2 ^ width t) y (pow_mono ok.head.width_high) (let few : rows t ≤ MOST = ok.head.few in omega arith) (fresh_rows LIMIT t y) (formed.fits y)
      (run_names_small LIMIT t ok y) (below y)

  module _ {left : List ℕ} {store : List Range} {counts : Counts} (run : Freshly t buffer LIMIT left store counts) where
    long : length left ≡ length buffer
    long = ap length run.result ∙ fresh_length LIMIT t buffer

    -- the result row, as its bytes have it
    row_left : row_at left x ≡ row_of (fresh_rows LIMIT t x)
    unfolding fresh_bytes
    row_left =
        ap (λ (l : List ℕ). row_at l x) run.result ∙
        put_rows_row (λ y. true) (fresh_rows LIMIT t) (source_at t) (rows t) (sets buffer 0 (take HEADER t)) (rw (length-sets, ← ok.head.size) can.room)
        (λ y l e. fits_fields y l) x can.row

    names_left : (y : ℕ) → y < rows t → NamesBelow y (look left y)
    names_left y l = subst (NamesBelow y) (sym (run.rows_are y l)) (below y)

    pub explain_lists : Listable t left x
    unfolding place
    explain_lists = record {
      wide = ok.head.width_high;
      room = room_in t can.row ok.head.size;
      reads = can.reads;
      names = formed_below (2 ^ width t) (look t) (accepted_formed t ok) x;
      rows = record {
        few = omega (arith, can.row, ok.head.few);
        room = omega (arith, can.row, ok.head.size, can.room, long);
        names = λ y l. names_left y (omega (arith, can.row));
      };
    }

    -- the list over the bytes is that of the promise
    list_by : (u : Term) → Names (Below (look t) x) u
        → list_for (modulus t) LIMIT (look left) (kept store) (source_at t) x (row_at left x) u ≡
        list_for (modulus t) LIMIT (fresh_rows LIMIT t) (range_of (modulus t) (fresh_rows LIMIT t)) (source_at t) x (row_of (fresh_rows LIMIT t x)) u
    unfolding list_for list
    list_by (const k) n = refl
    list_by (var name k h) n = refl
    list_by (shift a k) n = refl
    list_by (sum a b k) n = refl
    list_by (diff a b k) n = refl
    list_by (neg a k) n = refl
    list_by (read m i) n =
        let array : m < rows t = omega (arith, n.0.below, can.row) in
        let index : i < rows t = omega (arith, n.1.below, can.row) in
        ap₂ (λ (ws : List ℕ) (y : Row). read_line (source_at t x) x m i ++ ws ++ result_line x y (source_at t x))
        (sym (lines_local (modulus t) (rows t) (fresh_rows LIMIT t) (look left) (range_of (modulus t) (fresh_rows LIMIT t)) (kept store) (source_at t) (λ y l. formed.names y)
        (λ y l. sym (run.rows_are y l)) (λ y l word. sym (run.ranges_are y l (sym (fresh_sort y) ∙ word))) i index (fresh_sort i ∙ n.1.sort) LIMIT m array))
        row_left
    list_by fresh n = refl
    list_by (write a b c) n = refl

    list_is : list_for (modulus t) LIMIT (look left) (kept store) (source_at t) x (row_at left x) (look t x) ≡ list_of t x
    unfolding list_of
    list_is = list_by (look t x) ((accepted_formed t ok).names x)

    -- measured, with the space lent and a byte to spare
    module _ {spare spare' : List ℕ} {size : ℕ}
        (measured : Put spare 0 (list_for (modulus t) LIMIT (look left) (kept store) (source_at t) x (row_at left x) (look t x)) (most (LIMIT + 1)) spare' size) where
      size_is : size ≡ length (list_of t x)
      size_is = measured.next ∙ zero-add _ ∙ ap length list_is

      -- the old bytes are put back where the list does not fit
      module _ (room : List ℕ) {saved : List ℕ} (roomy : length room ≡ LARGEST) (kept-bytes : saved ≡ sets room 0 (take (length t) (drop 0 buffer))) where
        pub explain_back : {count : ℕ} → count ≤ length t → Rooms saved 0 count left 0
        explain_back few =
            let saved_long : length saved ≡ LARGEST = ap length kept-bytes ∙ length-sets room 0 (take (length t) (drop 0 buffer)) ∙ roomy in
            record { source = omega (arith, saved_long, small); target = omega (arith, long, can.room) }

        pub explain_short : {space back : List ℕ} {a : Listing} → length space < size → back ≡ sets left 0 (take (length t) (drop 0 saved)) → a ≡ listing 22 0 0 0 size
            → Explained t buffer x space a back space
        explain_short {space} {back} {a} h put is =
            let old : back ≡ buffer =
            put ∙ ap (λ (l : List ℕ). sets l 0 (take (length t) (drop 0 saved))) run.result ∙ restored t buffer ok can.room room saved (rw roomy small) kept-bytes in
            rw old (explained_short can space (rw (← size_is) h) (is ∙ ap (listing 22 0 0 0) size_is))

      pub explain_fits : {space listed : List ℕ} {n e : ℕ} → size ≤ length space
          → Put space 0 (list_for (modulus t) LIMIT (look left) (kept store) (source_at t) x (row_at left x) (look t x)) (most (LIMIT + 1)) listed e → Read (rows t) 65536 n
          → Explained t buffer x space (record { answer = record { refusal = 0; row = 0; removed = counts.removed; touched = n; compared = 0 }; length = size }) left listed
      explain_fits {space} {listed} {n} h put counted =
          rw (put.written, list_is, counted.is, run.removed, run.result, size_is) (explained_fits can space (rw (← size_is) h))
