-- Bytes that differ in the sources of rows alone: the check, the rows and the result are the same, and rows put into both leave both so.
use Prim.Native.Nat.{ℕ, zero, suc, ◌+◌, ◌≤◌, ◌<◌}
use native.Mathlib.Omega.{arith}
use native.Mathlib.Decide.{dec_lt, ℕ_discrete}
use mathlib.Core.Path.{◌≡◌, ap, sym, fun_ext, ◌∙◌}
use mathlib.Core.Bool.{Bool, true, false}
use mathlib.Core.Logic.{dite}
use mathlib.Core.List.{List}
use lib.ListN.{length, take, length-take, get_or-eq_default}
use lib.Seq.{sets, length-sets, get_or-take, take-take, length-take-le}
use Rattle.basis.proofs.Sets.{sets_above, copied_there}
use Rattle.in_bytes.specs.Numbers.{byte}
use Rattle.row.specs.declared.Row.{Row}
use Rattle.row.specs.Names.{HEADER, LENGTH, place}
use Rattle.row.specs.Bytes.{row_at, mark_wrong, bytes_of, put_row}
use Rattle.row.proofs.Places.{header_below, place_suc}
use Rattle.row.proofs.Rows.{row_from_same, mark_wrong_same, bytes_stay, bytes_new, take_stays, length_bytes_of, fields_bytes_of}
use Rattle.names.specs.First.{name_of, name_at, first_of}
use Rattle.table.specs.declared.Uses.{Uses}
use Rattle.table.specs.Verdict.{Verdict}
use Rattle.table.specs.Uses.{uses_of}
use Rattle.table.specs.Refusals.{width, rows, head_reasons, reference, wrong_sort, row_reasons, row_fault, check_rows, check_table, accepted}
use Rattle.term.specs.Term.{Term, term_of, row_of}
use Rattle.term.specs.Bytes.{look, put_if, put_rows}
use Rattle.term.proofs.Placed.{length_put_rows}
use Rattle.term.proofs.Acceptable.{same_width, same_rows, same_head}
use Rattle.simplify.specs.Answer.{modulus}
use Rattle.simplify.specs.Run.{fresh_rows}
use Rattle.demands.specs.Sources.{AlikeButSources, RowAlike}

module _ (s t : List ℕ) (same : AlikeButSources s t) where
  pub width_alike : width s ≡ width t
  width_alike = same_width s t same.header

  pub rows_alike : rows s ≡ rows t
  rows_alike = same_rows s t same.header

  row_alike : (x : ℕ) → row_at s x ≡ row_at t x
  unfolding row_at
  row_alike x = row_from_same s t (place x) (place x) (same.fields x)

  mark_alike : (x : ℕ) → mark_wrong s (place x) ≡ mark_wrong t (place x)
  mark_alike x = mark_wrong_same s t (place x) (place x) (same.fields x)

  pub look_alike : look s ≡ look t
  unfolding look
  look_alike = fun_ext (λ (x : ℕ). ap term_of (row_alike x))

  -- what the check finds
  pub head_alike : head_reasons s ≡ head_reasons t
  unfolding head_reasons
  head_alike = rw (same.long, same_head s t same.header, width_alike, rows_alike)

  sort_alike : (u : Uses) (x : Row) → wrong_sort s u x ≡ wrong_sort t u x
  unfolding wrong_sort
  sort_alike u x = fun_ext (λ (f : ℕ). rw (row_alike (reference x f)))

  names_alike : name_at s ≡ name_at t
  unfolding name_at
  names_alike = fun_ext (λ (r : ℕ). ap name_of (row_alike r))

  fault_alike : row_fault s ≡ row_fault t
  unfolding row_fault row_reasons
  fault_alike =
      fun_ext
      (λ (r : ℕ).
      rw (row_alike r, mark_alike r, width_alike, sort_alike (uses_of (row_at t r).kind) (row_at t r), names_alike, row_alike (first_of (name_at t) r)))

  pub scan_alike : (after : Verdict) → check_rows s after ≡ check_rows t after
  unfolding check_rows
  scan_alike after = rw (fault_alike, rows_alike)

  pub check_alike : check_table s ≡ check_table t
  unfolding check_table
  check_alike = rw (head_alike, scan_alike accepted)

  -- the rows of the result
  pub modulus_alike : modulus s ≡ modulus t
  unfolding modulus
  modulus_alike = rw width_alike

  pub fresh_alike : (limit : ℕ) → fresh_rows limit s ≡ fresh_rows limit t
  unfolding fresh_rows
  fresh_alike limit = rw (modulus_alike, look_alike)

  -- a part from the beginning on
  pub part_alike : (n : ℕ) → HEADER ≤ n → AlikeButSources (take n s) (take n t)
  part_alike n h =
      record {
        long = lengths;
        header = take-take HEADER n s h ∙ same.header ∙ sym (take-take HEADER n t h);
        fields = λ x j l.
            dite (dec_lt (place x + j) n)
            (λ (k : place x + j < n). get_or-take n s (place x + j) 0 k ∙ same.fields x j l ∙ sym (get_or-take n t (place x + j) 0 k))
            (λ (k : place x + j < n → ⊥). past s (place x + j) (omega arith) ∙ sym (past t (place x + j) (omega arith)));
      }
    where
      lengths : length (take n s) ≡ length (take n t)
      lengths = rw (length-take n s, length-take n t, same.long)

      past : (l : List ℕ) (i : ℕ) → n ≤ i → byte (take n l) i ≡ 0
      past l i k = get_or-eq_default (take n l) 0 (rw (length-take n l) (omega arith))

-- ---- rows written over both

pub sets_alike : (b c : List ℕ) (r : ℕ) (v w : List ℕ) → length v ≡ LENGTH → place r + LENGTH ≤ length b → AlikeButSources b c → RowAlike v w →
    AlikeButSources (sets b (place r) v) (sets c (place r) w)
sets_alike b c r v w long room same alike =
    let long' : length w ≡ LENGTH = sym alike.long ∙ long in
    let room' : place r + LENGTH ≤ length c = rw (← same.long) room in
    record {
      long = length-sets b (place r) v ∙ same.long ∙ sym (length-sets c (place r) w);
      header = take_stays b r v long HEADER (header_below r) ∙ same.header ∙ sym (take_stays c r w long' HEADER (header_below r));
      fields = λ x j l.
          dite (ℕ_discrete x r)
          (λ (e : x ≡ r). rw e (bytes_new b r v long room j (omega arith) ∙ alike.fields j l ∙ sym (bytes_new c r w long' room' j (omega arith))))
          (λ (other : x ≡ r → ⊥). bytes_stay b r v long x other j (omega arith) ∙ same.fields x j l ∙ sym (bytes_stay c r w long' x other j (omega arith)));
    }

put_if_alike : (touched : Bool) (b c : List ℕ) (r : ℕ) (x : Row) (source other : ℕ) → place r + LENGTH ≤ length b → AlikeButSources b c →
    AlikeButSources (put_if touched r x source b) (put_if touched r x other c)
unfolding put_if put_row
put_if_alike true b c r x source other room same =
    sets_alike b c r (bytes_of x source) (bytes_of x other) (length_bytes_of x source) room same
    (record { long = length_bytes_of x source ∙ sym (length_bytes_of x other); fields = fields_bytes_of x source other })
put_if_alike false b c r x source other room same = same

pub put_rows_alike : (touched : ℕ → Bool) (f : ℕ → Term) (source other : ℕ → ℕ) (n : ℕ) (b c : List ℕ) → place n ≤ length b → AlikeButSources b c →
    AlikeButSources (put_rows touched f source n b) (put_rows touched f other n c)
unfolding put_rows
put_rows_alike touched f source other zero b c room same = same
put_rows_alike touched f source other (suc n) b c room same =
    let here : place n + LENGTH ≤ length b = rw (place_suc n) at room in
    put_if_alike (touched n) (put_rows touched f source n b) (put_rows touched f other n c) n (row_of (f n)) (source n) (other n)
    (rw (length_put_rows touched f source n b) here)
    (put_rows_alike touched f source other n b c (omega arith) same)

-- one header written over both
pub header_alike : (b c head : List ℕ) → HEADER ≤ length head → HEADER ≤ length b → AlikeButSources b c →
    AlikeButSources (sets b 0 (take HEADER head)) (sets c 0 (take HEADER head))
header_alike b c head long room same =
    record {
      long = length-sets b 0 (take HEADER head) ∙ same.long ∙ sym (length-sets c 0 (take HEADER head));
      header = copied_there HEADER head b long room ∙ sym (copied_there HEADER head c long (rw (← same.long) room));
      fields = λ x j l. behind b x j ∙ same.fields x j l ∙ sym (behind c x j);
    }
  where
    behind : (l : List ℕ) (x j : ℕ) → byte (sets l 0 (take HEADER head)) (place x + j) ≡ byte l (place x + j)
    behind l x j = sets_above l 0 (take HEADER head) (place x + j) (omega (arith, header_below x, length-take-le HEADER head long))
