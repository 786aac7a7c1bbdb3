-- What an accepted edit leaves, over any kept result that it accepts and with any limit: the rows that stand in the kept result afterwards are well formed, and each
-- one that was worked out anew is what its rule makes of them.
use Prim.Native.Nat.{ℕ, ◌≤◌, ◌<◌, ◌^◌}
use native.Mathlib.Omega.{arith}
use native.Mathlib.Decide.{dec_lt}
use mathlib.Core.Path.{◌≡◌, refl, ap, sym, fun_ext, ◌∙◌}
use mathlib.Core.Bool.{true, false, cond}
use mathlib.Core.Logic.{dite}
use mathlib.Core.List.{List}
use lib.ListN.{length, take}
use lib.Seq.{length-take-le}
use lib.Pow.{pow_mono}
use lib.Dec.{lit<}
use Rattle.basis.proofs.Pick.{pick_case, pick_true}
use Rattle.row.specs.Names.{place}
use Rattle.row.specs.Bytes.{source_at}
use Rattle.row.proofs.Places.{place_grows}
use Rattle.table.specs.Refusals.{rows, MOST}
use Rattle.table.specs.Accepted.{Accepted}
use Rattle.table.proofs.Accepts.{accepted_gives}
use Rattle.term.specs.Term.{Term, const, read, stated_by, is_array}
use Rattle.term.specs.Relation.{range_of}
use Rattle.term.specs.Walk.{walk}
use Rattle.term.specs.Rule.{rule, read_by, read_rule}
use Rattle.term.specs.Result.{rule_at, simplified}
use Rattle.term.specs.WellFormed.{WellFormed}
use Rattle.term.specs.Bytes.{look, edited, put_rows}
use Rattle.term.proofs.Names.{NamesBelow}
use Rattle.term.proofs.Seen.{seen_formed, seen_small, by_name_bare}
use Rattle.term.proofs.WellFormed.{formed_below, simplified_stands, renewed_formed}
use Rattle.term.proofs.Renewed.{renewed_eq}
use Rattle.term.proofs.Looked.{look_past, name_small, cut_look, look_put_rows, small_term}
use Rattle.term.proofs.Placed.{length_put_rows}
use Rattle.term.proofs.Acceptable.{same_rows}
use Rattle.judge.specs.Verdict.{is_accepted}
use Rattle.judge.specs.Kept.{kept_part, kept_wrong}
use Rattle.judge.proofs.Right.{right_sorts, right_formed}
use Rattle.simplify.specs.Answer.{modulus}
use Rattle.simplify.specs.Edit.{edit_verdict, is_touched, edited_rows, edited_bytes, edit_table, edit_kept}
use Rattle.simplify.proofs.Granted.{edit_granted}
use Rattle.demands.specs.Own.{rows_in}
use Rattle.demands.proofs.Demand2.{formed, positive}
use Rattle.demands.proofs.Demand3.{edited_head, edited_passes, edited_room, table_left, kept_left}

module _ (t kept : List ℕ) (r : ℕ) (new : List ℕ) (limit : ℕ) (granted : is_accepted (edit_verdict t kept r new limit) ≡ true) where
  abbrev e : List ℕ
  e = edited t r new

  abbrev part : List ℕ
  part = kept_part e kept

  abbrev out : ℕ → Term
  out = edited_rows limit t e r kept

  pub edited_ok : Accepted (edited t r new)
  edited_ok = accepted_gives e (edited_passes t kept r new limit granted)

  pub edited_count : rows (edited t r new) ≡ rows t
  edited_count = same_rows e t (edited_head t kept r new limit granted)

  right : kept_wrong e part ≡ false
  unfolding kept_part
  right = ap (λ (n : ℕ). kept_wrong e (take (place n) kept)) edited_count ∙ (edit_granted t kept r new limit granted).kept_right

  part_formed : WellFormed (modulus e) (look part)
  unfolding modulus
  part_formed = right_formed e part right

  pub kept_below : NamesBelow (look (kept_part (edited t r new) kept))
  kept_below = formed_below (modulus e) (look part) part_formed

  -- past the end there are no rows
  pub edited_past : (x : ℕ) → (x < rows (edited t r new) → ⊥) → look (edited t r new) x ≡ const 0
  edited_past x l = look_past e x (rw edited_ok.head.size (place_grows (omega arith)))

  cut_past : (s : List ℕ) → place (rows e) ≤ length s → (x : ℕ) → (x < rows e → ⊥) → look (take (place (rows e)) s) x ≡ const 0
  cut_past s room x l = look_past (take (place (rows e)) s) x (rw (length-take-le (place (rows e)) s room) (place_grows (omega arith)))

  part_past : (x : ℕ) → (x < rows e → ⊥) → look part x ≡ const 0
  unfolding kept_part
  part_past = cut_past kept (edited_room t kept r new limit granted)

  sorts : (x : ℕ) → is_array (look part x) ≡ is_array (look e x)
  sorts x = dite (dec_lt x (rows e)) (right_sorts e part right x) (λ (l : x < rows e → ⊥). ap is_array (part_past x l ∙ sym (edited_past x l)))

  pub edited_formed : WellFormed (modulus (edited t r new)) (edited_rows limit t (edited t r new) r kept)
  unfolding edited_rows
  edited_formed = renewed_formed (modulus e) limit (positive e) (is_touched t e r) (look e) (look part) (formed e edited_ok) part_formed sorts

  -- each row is worked out anew or as it was
  pub edited_eq : (x : ℕ) → edited_rows limit t (edited t r new) r kept x ≡
      cond (is_touched t (edited t r new) r x)
      (simplified (modulus (edited t r new)) limit (look (edited t r new)) (edited_rows limit t (edited t r new) r kept) x)
      (look (kept_part (edited t r new) kept) x)
  unfolding edited_rows
  edited_eq =
      renewed_eq (modulus e) limit (is_touched t e r) (look e) (look part) (formed_below (modulus e) (look e) (formed e edited_ok))
      (λ x h. kept_below x)

  -- ---- as they stand in the bytes

  names_small : (x : ℕ) → stated_by (out x) < 65536
  names_small x =
      rw (edited_eq x)
      (pick_case (λ (u : Term). stated_by u < 65536) (is_touched t e r x)
      (λ h.
      rw (simplified_stands (modulus e) (positive e) limit (look e) out x ((seen_formed (look e) (modulus e) (positive e) (formed e edited_ok)).fits x)).2
      (seen_small (look e) 65536 (lit< tt) (name_small e) x))
      (λ h. name_small part x))

  words : modulus e ≤ 2 ^ 64
  unfolding modulus
  words = pow_mono edited_ok.head.width_high

  out_past : (x : ℕ) → (x < rows e → ⊥) → out x ≡ const 0
  unfolding simplified rule_at rule stated_by
  out_past x l =
      edited_eq x ∙
      pick_case (λ (u : Term). u ≡ const 0) (is_touched t e r x)
      (λ h. by_name_bare (look e) x (ap stated_by (edited_past x l)) _ ∙ ap (rule (modulus e) limit out (range_of (modulus e) out)) (edited_past x l))
      (λ h. part_past x l)

  put : List ℕ
  put = put_rows (is_touched t e r) out (source_at e) (rows e) kept

  put_row_lem : (x : ℕ) → x < rows e → look (take (place (rows e)) put) x ≡ out x
  unfolding put kept_part
  put_row_lem x l =
      let few : rows e ≤ MOST = edited_ok.head.few in
      cut_look put (rows e) x l ∙
      look_put_rows (is_touched t e r) out (source_at e) (rows e) kept (edited_room t kept r new limit granted)
      (λ y k h. small_term (modulus e) y words (omega arith) (out y) (edited_formed.fits y) (names_small y) (formed_below (modulus e) out edited_formed y)) x l ∙
      pick_case (λ (u : Term). u ≡ out x) (is_touched t e r x) (λ h. refl)
      (λ h. sym (edited_eq x ∙ rw h (cut_look kept (rows e) x l)))

  pub rows_after : rows_in (edit_table t kept r new limit) (edit_kept t kept r new limit) ≡ edited_rows limit t (edited t r new) r kept
  unfolding rows_in edited_bytes put
  rows_after =
      rw (table_left t kept r new limit granted, kept_left t kept r new limit granted, edited_ok.head.size)
      (fun_ext
      (λ (x : ℕ).
      dite (dec_lt x (rows e)) (put_row_lem x)
      (λ (l : x < rows e → ⊥).
      cut_past put (rw (length_put_rows (is_touched t e r) out (source_at e) (rows e) kept) (edited_room t kept r new limit granted)) x l ∙ sym (out_past x l))))

  -- a READ that was worked out anew: the walk over those rows made it
  pub edited_walk_made_row : (x m i : ℕ) → is_touched t (edited t r new) r x ≡ true → look (edited t r new) x ≡ read m i →
      edited_rows limit t (edited t r new) r kept x ≡
      read_by (modulus (edited t r new)) (edited_rows limit t (edited t r new) r kept) i
      (walk (edited_rows limit t (edited t r new) r kept) (range_of (modulus (edited t r new)) (edited_rows limit t (edited t r new) r kept)) i limit m)
  unfolding simplified rule_at rule read_rule stated_by
  edited_walk_made_row x m i touched is =
      edited_eq x ∙ pick_true (is_touched t e r x) _ _ touched ∙ by_name_bare (look e) x (ap stated_by is) _ ∙
      ap (rule (modulus e) limit out (range_of (modulus e) out)) is
