-- The rows that an edit works out anew: what the loop asks, and that what it leaves is what the public promise says.
use Prim.Native.Nat.{ℕ, ◌^◌, ◌≤◌, ◌<◌}
use Rattle.range.specs.declared.Range.{Range}
use Rattle.range.specs.Range.{point}
use native.Mathlib.Nat.{le_refl, le_trans, lt_trans, lt_of_lt_of_le}
use mathlib.Core.Path.{◌≡◌, ap, sym, subst, ◌∙◌}
use mathlib.Core.Bool.{false, Bool}
use mathlib.Core.List.{List}
use lib.ListN.{length, replicate}
use Rattle.row.specs.Names.{HEADER, place}
use Rattle.in_bytes.specs.Numbers.{Read}
use Rattle.row.proofs.Places.{header_below, place_grows}
use Rattle.table.specs.Refusals.{MOST, width, rows}
use Rattle.table.specs.Accepted.{Accepted}
use Rattle.table.proofs.Accepts.{accepted_gives}
use Rattle.term.specs.Term.{is_array}
use Rattle.term.specs.WellFormed.{Fits, Names, Below, WellFormed}
use Rattle.term.specs.Bytes.{look, edited}
use Rattle.term.proofs.Names.{NamesBelow, names_widen}
use Rattle.term.proofs.WellFormed.{formed_below}
use Rattle.term.proofs.Looked.{cut_look}
use Rattle.term.proofs.Accepted.{accepted_formed}
use Rattle.walks.specs.Ready.{SortsIn}
use Rattle.marks.specs.Marks.{marked}
use Rattle.touching.specs.Touched.{CanMark, Marked}
use Rattle.judge.specs.Kept.{kept_part}
use Rattle.judge.proofs.Right.{right_sorts, right_formed}
use Rattle.renew.specs.declared.Counts.{Counts}
use Rattle.renew.specs.Renew.{CanRenew, Renewed}
use Rattle.renew.proofs.Outcome.{bytes_are, removed_is, compared_is}
use Rattle.simplify.specs.Answer.{modulus}
use Rattle.simplify.specs.Edit.{is_touched, edited_rows, edited_bytes, edited_removed, touched_rows, edited_compared}
use Rattle.simplify.specs.Patch.{CanPatch, patch_answer, Patched}
use Rattle.simplify.proofs.FreshRun.{answer_is}

-- the store before any range is in it
abbrev blank : List Range
blank = replicate 1024 (point 0)

module _ (t old kept : List ℕ) (r limit : ℕ) (can : CanPatch t old kept r limit) where
  ok : Accepted t
  ok = accepted_gives t can.table

  pub patch_header : HEADER ≤ length t
  patch_header = rw ok.head.size (header_below (rows t))

  pub patch_width : width t ≤ 64
  patch_width = ok.head.width_high

  abbrev part : List ℕ
  part = kept_part t kept

  same_sorts : (x : ℕ) → x < rows t → is_array (look part x) ≡ is_array (look t x)
  same_sorts = right_sorts t part can.right

  part_formed : WellFormed (2 ^ width t) (look part)
  part_formed = right_formed t part can.right

  part_look : (x : ℕ) → x < rows t → look kept x ≡ look part x
  unfolding kept_part
  part_look x l = sym (cut_look kept (rows t) x l)

  part_below : NamesBelow (look part)
  part_below = formed_below (2 ^ width t) (look part) part_formed

  part_sorts : (x : ℕ) → x < rows t → SortsIn t (look part x)
  part_sorts x l = names_widen (look part x) (λ s y (b : Below (look part) x s y). sym (same_sorts y (lt_trans b.below l)) ∙ b.sort) (part_formed.names x)

  module _ {n : ℕ} (rows_is : Read (rows t) 65536 n) where
    pub patch_marks : {no : List ℕ} → ((x : ℕ) → x < MOST → marked no x ≡ false) → CanMark t old n r no
    patch_marks none = record { ok = ok; few = rows_is.is; row = rw rows_is.is can.row; long = can.long; none = none }

    module _ {marks : List ℕ} {count w : ℕ} (done : Marked t old r n marks count) (width_is : Read (width t) 256 w) where
      marks_are : (x : ℕ) → x < rows t → marked marks x ≡ is_touched (edited t r old) t r x
      unfolding is_touched
      marks_are = rw rows_is.is at done.marks_are

      asked : CanRenew t kept blank marks (width t) limit (rows t)
      asked =
          record {
            width = ok.head.width_high;
            few = ok.head.few;
            limited = can.limited;
            table_room = rw ok.head.size (le_refl (place (rows t)));
            room = rw (← ok.head.size) can.room;
            formed = accepted_formed t ok;
            kept_fits = λ x l e. subst (Fits (2 ^ width t)) (sym (part_look x l)) (part_formed.fits x);
            kept_names = λ x l e. subst (Names (λ array y. y < x)) (sym (part_look x l)) (part_below x);
            kept_sorts = λ x l e. subst (SortsIn t) (sym (part_look x l)) (part_sorts x l);
            kept_sort = λ x l e. ap is_array (part_look x l) ∙ same_sorts x l;
          }

      -- of all rows, or of fewer
      pub patch_asks : {some : ℕ} → some ≤ n → CanRenew t kept blank marks w limit some
      patch_asks fewer =
          let all : CanRenew t kept blank marks w limit n = rw (width_is.is, rows_is.is) asked in
          record {
            width = all.width;
            few = le_trans fewer all.few;
            limited = all.limited;
            table_room = le_trans (place_grows fewer) all.table_room;
            room = le_trans (place_grows fewer) all.room;
            formed = all.formed;
            kept_fits = λ x l. all.kept_fits x (lt_of_lt_of_le l fewer);
            kept_names = λ x l. all.kept_names x (lt_of_lt_of_le l fewer);
            kept_sorts = λ x l. all.kept_sorts x (lt_of_lt_of_le l fewer);
            kept_sort = λ x l. all.kept_sort x (lt_of_lt_of_le l fewer);
          }

      abbrev touched : ℕ → Bool
      touched = is_touched (edited t r old) t r

      module _ {R : List ℕ} {S : List Range} {counts : Counts} (d : Renewed t kept marks (width t) limit (rows t) R S counts) where
        bytes_done : R ≡ edited_bytes limit (edited t r old) t r kept
        unfolding edited_bytes edited_rows modulus
        bytes_done = d.result ∙ bytes_are t kept blank marks (width t) limit (rows t) asked touched (look part) (λ x e. part_below x) marks_are (λ x l e. part_look x l)

        removed_done : counts.removed ≡ edited_removed limit (edited t r old) t r kept
        unfolding edited_removed edited_rows modulus
        removed_done = d.removed ∙ removed_is t kept blank marks (width t) limit (rows t) asked touched (look part) (λ x e. part_below x) marks_are (λ x l e. part_look x l)

        compared_done : counts.compared ≡ edited_compared limit (edited t r old) t r kept
        unfolding edited_compared edited_rows modulus
        compared_done = d.compared ∙ compared_is t kept blank marks (width t) limit (rows t) asked touched (look part) (λ x e. part_below x) marks_are (λ x l e. part_look x l)

      pub patch_done : {R : List ℕ} {S : List Range} {counts : Counts} → Renewed t kept marks w limit n R S counts →
          Patched t old kept r limit (record { refusal = 0; row = 0; removed = counts.removed; touched = count; compared = counts.compared }) R
      unfolding patch_answer touched_rows is_touched
      patch_done {R = R} {S = S} {counts = counts} d =
          let whole : Renewed t kept marks (width t) limit (rows t) R S counts = rw (width_is.is, rows_is.is) at d in
          record {
            answer_is =
                answer_is 0 0 counts.removed count counts.compared ∙
                cc (removed_done whole, rw rows_is.is at done.counted, compared_done whole);
            kept_is = bytes_done whole;
          }
