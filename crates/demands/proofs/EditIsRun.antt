-- An edit of a table with its own kept result leaves what a fresh run of the edited table with the same limit leaves.
use Prim.Native.Nat.{ℕ, ◌^◌, ◌<◌}
use mathlib.Core.Path.{◌≡◌, refl, ap, ap₂, sym, fun_ext, ◌∙◌}
use mathlib.Core.Bool.{true, false}
use mathlib.Core.Logic.{inl}
use mathlib.Core.List.{List}
use lib.ListN.{length, take}
use Rattle.basis.proofs.Pick.{test_case}
use Rattle.row.specs.Names.{HEADER, LENGTH, place}
use Rattle.row.specs.Bytes.{source_at, bytes_of}
use Rattle.row.proofs.Places.{header_below}
use Rattle.row.proofs.Rows.{source_stays, take_stays}
use Rattle.table.specs.Refusals.{width, rows}
use Rattle.table.specs.Accepted.{Accepted}
use Rattle.term.specs.Term.{Term, row_of}
use Rattle.term.specs.Result.{renewed, result}
use Rattle.term.specs.Bytes.{look, edited, put_rows}
use Rattle.term.proofs.Names.{NamesBelow}
use Rattle.term.proofs.WellFormed.{formed_below}
use Rattle.term.proofs.Touched.{is-touched-in}
use Rattle.term.proofs.Looked.{edited_others}
use Rattle.term.proofs.Edit.{untouched_result, edit_is_run}
use Rattle.term.proofs.Placed.{put_rows_same}
use Rattle.term.proofs.There.{row_bytes, rows_alike}
use Rattle.term.proofs.Accepted.{accepted_formed}
use Rattle.term.proofs.Acceptable.{same_width, same_rows}
use Rattle.judge.specs.Kept.{kept_part}
use Rattle.simplify.specs.Answer.{modulus}
use Rattle.simplify.specs.Run.{fresh_rows, fresh_bytes}
use Rattle.simplify.specs.Edit.{is_touched, edited_rows, edited_bytes}
use Rattle.demands.specs.Own.{Own}
use Rattle.demands.proofs.Fresh.{head_there, fresh_there}
use Rattle.demands.proofs.Owned.{own_accepted, own_room, own_fresh, own_head, part_rows}

module _ {limit : ℕ} (t kept : List ℕ) (r : ℕ) (new : List ℕ) (long : length new ≡ LENGTH) (own : Own limit t kept) (ok' : Accepted (edited t r new)) where
  abbrev pub e : List ℕ
  e = edited t r new

  pub same_head : take HEADER e ≡ take HEADER t
  unfolding edited
  same_head = take_stays t r new long HEADER (header_below r)

  alike : (x : ℕ) → (x ≡ r → ⊥) → look t x ≡ look e x
  alike = edited_others t r new long

  -- the replacement brings its own source
  same_source : (x : ℕ) → (x ≡ r → ⊥) → source_at t x ≡ source_at e x
  unfolding edited
  same_source x other = sym (source_stays t r new long x other)

  pub rows_same : rows e ≡ rows t
  rows_same = same_rows e t same_head

  modulus_same : modulus e ≡ modulus t
  unfolding modulus
  modulus_same = ap (λ (w : ℕ). 2 ^ w) (same_width e t same_head)

  below : NamesBelow (look t)
  below = formed_below (2 ^ width t) (look t) (accepted_formed t (own_accepted t kept own))

  below' : NamesBelow (look e)
  below' = formed_below (2 ^ width e) (look e) (accepted_formed e ok')

  -- the rows of the kept result are those of the fresh result
  part_look : (x : ℕ) → look (kept_part e kept) x ≡ fresh_rows limit t x
  unfolding kept_part
  part_look x = ap (λ (n : ℕ). look (take (place n) kept) x) rows_same ∙ ap (λ (f : ℕ → Term). f x) (part_rows t kept own)

  same_rules : (x : ℕ) → fresh_rows limit t x ≡ result (modulus e) limit (look t) x
  unfolding fresh_rows
  same_rules x = ap (λ (M : ℕ). result M limit (look t) x) (sym modulus_same)

  pub untouched_fresh : (x : ℕ) → is_touched t e r x ≡ false → fresh_rows limit t x ≡ fresh_rows limit e x
  unfolding fresh_rows is_touched
  untouched_fresh x h = same_rules x ∙ untouched_result (modulus e) limit (look t) (look e) r alike below below' x h

  pub edited_rows_lem : (x : ℕ) → edited_rows limit t e r kept x ≡ fresh_rows limit e x
  unfolding edited_rows fresh_rows is_touched
  edited_rows_lem x =
      ap (λ (f : ℕ → Term). renewed (modulus e) limit (is_touched t e r) (look e) f x) (fun_ext (λ (y : ℕ). part_look y ∙ same_rules y)) ∙
      edit_is_run (modulus e) limit (look t) (look e) r alike below below' x

  pub edited_bytes_lem : edited_bytes limit t e r kept ≡ fresh_bytes limit e kept
  unfolding edited_bytes fresh_bytes is_touched
  edited_bytes_lem =
      put_rows_same (is_touched t e r) (is_touched t e r) (edited_rows limit t e r kept) (fresh_rows limit e) (source_at e) (rows e) kept (λ x l. refl) (λ x l. edited_rows_lem x) ∙
      rows_alike (fresh_rows limit e) (source_at e) (is_touched t e r) (λ x. true) (rows e) kept there ∙
      ap (put_rows (λ x. true) (fresh_rows limit e) (source_at e) (rows e)) (sym (head_there e kept (own_head t kept own ∙ sym same_head)))
    where
      there : (x : ℕ) → x < rows e → (is_touched t e r x ≡ true → ⊥) → row_bytes kept x ≡ bytes_of (row_of (fresh_rows limit e x)) (source_at e x)
      there x l other =
          ap (λ (b : List ℕ). row_bytes b x) (sym (own_fresh t kept own)) ∙
          fresh_there limit t kept (own_accepted t kept own) (own_room t kept own) x (rw rows_same at l) ∙
          ap₂ (λ (u : Term) (s : ℕ). bytes_of (row_of u) s)
          (untouched_fresh x (test_case (is_touched t e r x) (λ h. absurd (other h)) (λ h. h)))
          (same_source x (λ same. other (is-touched-in (look t) (look e) r alike below' x (inl same))))
