-- What a fresh run leaves: the table's header, and the rows of its result, each in its place: an accepted table. A second run into it changes nothing.
use Prim.Native.Nat.{ℕ, ◌≤◌, ◌<◌}
use native.Mathlib.Omega.{arith}
use mathlib.Core.Path.{◌≡◌, refl, ap, sym, ◌∙◌}
use mathlib.Core.Bool.{true, false}
use mathlib.Core.List.{List}
use lib.ListN.{length, take}
use lib.Seq.{sets, length-sets}
use Rattle.basis.proofs.Pick.{pick_true}
use Rattle.row.specs.Names.{HEADER, place}
use Rattle.row.specs.Bytes.{source_at, bytes_of}
use Rattle.row.proofs.Places.{header_below}
use Rattle.basis.proofs.Sets.{sets_same, copied_there}
use Rattle.table.specs.Refusals.{rows}
use Rattle.table.specs.Accepted.{Accepted}
use Rattle.term.specs.Term.{row_of}
use Rattle.term.specs.Bytes.{look, put_rows}
use Rattle.term.proofs.Placed.{put_rows_head}
use Rattle.term.proofs.There.{row_bytes, rows_there, rows_alike, none_touched}
use Rattle.term.proofs.Outcome.{run_accepted, run_look}
use Rattle.judge.specs.Verdict.{is_accepted}
use Rattle.judge.specs.Run.{run_verdict}
use Rattle.simplify.specs.Answer.{modulus}
use Rattle.simplify.specs.Run.{fresh_rows, fresh_bytes, run_result}

pub run_leaves : (t buffer : List ℕ) (limit : ℕ) → is_accepted (run_verdict t buffer limit) ≡ true → run_result t buffer limit ≡ fresh_bytes limit t buffer
unfolding run_result
run_leaves t buffer limit granted = pick_true (is_accepted (run_verdict t buffer limit)) _ _ granted

-- a header that is there already
pub head_there : (t kept : List ℕ) → take HEADER kept ≡ take HEADER t → sets kept 0 (take HEADER t) ≡ kept
head_there t kept e = ap (sets kept 0) (sym e) ∙ sets_same kept 0 HEADER

module _ (limit : ℕ) (t buffer : List ℕ) (ok : Accepted t) (room : length t ≤ length buffer) where
  size : length t ≡ place (rows t)
  size = ok.head.size

  header_fits : HEADER ≤ length t
  header_fits = rw size (header_below (rows t))

  -- the header in the buffer, and room for the rows after it
  head_copied : take HEADER (sets buffer 0 (take HEADER t)) ≡ take HEADER t
  head_copied = copied_there HEADER t buffer header_fits (let h : HEADER ≤ length t = header_fits in omega arith)

  rows_fit : place (rows t) ≤ length (sets buffer 0 (take HEADER t))
  rows_fit = rw length-sets (rw (← size) room)

  pub fresh_head : take HEADER (fresh_bytes limit t buffer) ≡ take HEADER t
  unfolding fresh_bytes
  fresh_head = put_rows_head (λ x. true) (fresh_rows limit t) (source_at t) (rows t) (sets buffer 0 (take HEADER t)) ∙ head_copied

  -- each row of the fresh result stands there
  pub fresh_there : (x : ℕ) → x < rows t → row_bytes (fresh_bytes limit t buffer) x ≡ bytes_of (row_of (fresh_rows limit t x)) (source_at t x)
  unfolding fresh_bytes
  fresh_there x l =
      rows_there (fresh_rows limit t) (source_at t) (λ y. true) (rows t) (sets buffer 0 (take HEADER t)) rows_fit x l refl

  -- and is looked up there
  pub fresh_look : (x : ℕ) → look (take (length t) (fresh_bytes limit t buffer)) x ≡ fresh_rows limit t x
  unfolding fresh_bytes fresh_rows modulus
  fresh_look x =
      rw size (run_look limit t (sets buffer 0 (take HEADER t)) ok rows_fit head_copied (source_at t) x)

  -- an accepted table
  pub fresh_accepted : Accepted (take (length t) (fresh_bytes limit t buffer))
  unfolding fresh_bytes fresh_rows modulus
  fresh_accepted = rw size (run_accepted limit t (sets buffer 0 (take HEADER t)) ok rows_fit head_copied (source_at t))

-- a buffer that has the header and the rows of a fresh result: a fresh run into it changes nothing
pub fresh_again : (limit : ℕ) (t kept : List ℕ) → take HEADER kept ≡ take HEADER t →
    ((x : ℕ) → x < rows t → row_bytes kept x ≡ bytes_of (row_of (fresh_rows limit t x)) (source_at t x)) → fresh_bytes limit t kept ≡ kept
unfolding fresh_bytes
fresh_again limit t kept head there =
    ap (put_rows (λ x. true) (fresh_rows limit t) (source_at t) (rows t)) (head_there t kept head) ∙
    rows_alike (fresh_rows limit t) (source_at t) (λ x. true) (λ x. false) (rows t) kept (λ x l other. there x l) ∙
    none_touched (fresh_rows limit t) (source_at t) (rows t) kept
