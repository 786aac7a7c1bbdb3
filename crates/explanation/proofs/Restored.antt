-- A result slice whose old bytes were saved is put back.
use Prim.Native.Nat.{ℕ, ◌≤◌}
use native.Mathlib.Nat.{zero-add, le_refl}
use mathlib.Core.Path.{◌≡◌, sym, ap, ◌∙◌}
use mathlib.Core.Bool.{true}
use mathlib.Core.List.{List, ◌++◌}
use lib.ListN.{length, take, drop}
use lib.Seq.{sets, sets-eq, length-take-le}
use Rattle.row.specs.Names.{HEADER, place}
use Rattle.row.specs.Bytes.{source_at}
use Rattle.row.proofs.Places.{header_below}
use Rattle.basis.proofs.Sets.{sets_same, drop_sets, copied_there}
use Rattle.table.specs.Refusals.{rows}
use Rattle.table.specs.Accepted.{Accepted}
use Rattle.term.proofs.Placed.{put_rows_behind}
use Rattle.judge.specs.Run.{LIMIT}
use Rattle.simplify.specs.Run.{fresh_rows, fresh_bytes}
use Rattle.simplify.proofs.FreshRun.{fresh_length}

-- slices that agree from n on, with the first n bytes of one written into the other
put_back : (n : ℕ) (old new : List ℕ) → n ≤ length old → n ≤ length new → drop n new ≡ drop n old → sets new 0 (take n old) ≡ old
put_back n old new h h' e =
    let long : length (take n old) ≡ n = length-take-le n old h in
    sets-eq (take n old) new 0 (rw (long, zero-add) h') ∙
    ap (λ (xs : List ℕ). take n old ++ xs) (rw (long, zero-add) e) ∙
    sym (sets-eq (take n old) old 0 (rw (long, zero-add) h)) ∙
    sets_same old 0 n

module _ (t buffer : List ℕ) (ok : Accepted t) (room : length t ≤ length buffer) where
  fresh_behind : drop (length t) (fresh_bytes LIMIT t buffer) ≡ drop (length t) buffer
  unfolding fresh_bytes
  fresh_behind =
      let size : length t ≡ place (rows t) = ok.head.size in
      let fits : HEADER ≤ length t = rw size (header_below (rows t)) in
      put_rows_behind (λ x. true) (fresh_rows LIMIT t) (source_at t) (rows t) (sets buffer 0 (take HEADER t)) (length t) (rw size (le_refl (place (rows t)))) ∙
      drop_sets (length t) buffer 0 (take HEADER t) (rw (length-take-le HEADER t fits, zero-add) fits)

  -- saved before the run, and put back after it
  pub restored : (space saved : List ℕ) → length t ≤ length space → saved ≡ sets space 0 (take (length t) (drop 0 buffer))
      → sets (fresh_bytes LIMIT t buffer) 0 (take (length t) (drop 0 saved)) ≡ buffer
  restored space saved long e =
      ap (sets (fresh_bytes LIMIT t buffer) 0) (ap (take (length t)) e ∙ copied_there (length t) buffer space room long) ∙
      put_back (length t) buffer (fresh_bytes LIMIT t buffer) room (rw (fresh_length LIMIT t buffer) room) fresh_behind
