-- What the loop leaves is what the public definitions say: the fresh result where every row is marked, the edited rows where the touched rows are.
use Prim.Native.Nat.{ℕ, ◌^◌, ◌<◌}
use Rattle.range.specs.declared.Range.{Range}
use mathlib.Core.Path.{◌≡◌, refl, ap, ◌∙◌}
use mathlib.Core.Bool.{Bool, true, false, cond}
use mathlib.Core.List.{List}
use borrow.Author.Tests.{lt-ltb}
use Rattle.basis.proofs.Pick.{pick_alike}
use Rattle.basis.proofs.Counts.{count_same}
use Rattle.row.specs.Bytes.{source_at}
use Rattle.term.specs.Term.{Term}
use Rattle.term.specs.Relation.{range_of}
use Rattle.term.specs.Result.{simplified, renewed, removed_rows}
use Rattle.term.specs.Compared.{compared_rows}
use Rattle.term.specs.Bytes.{look, put_rows}
use Rattle.term.proofs.Names.{names_widen}
use Rattle.term.proofs.Local.{range_local}
use Rattle.term.proofs.Compared.{compared_rows_same}
use Rattle.term.proofs.Renewed.{KeptBelow, renewed_only_below}
use Rattle.term.proofs.Placed.{put_rows_same}
use Rattle.marks.specs.Marks.{marked}
use Rattle.renew.specs.Renew.{standing, outcome, CanRenew}
use Rattle.renew.proofs.Renewing.{table_below, out_eq, out_below}

-- removed is counted alike over rows that agree
pub removed_same : (t f f' : ℕ → Term) (n : ℕ) → ((x : ℕ) → x < n → f x ≡ f' x) → removed_rows t f n ≡ removed_rows t f' n
unfolding removed_rows
removed_same t f f' n same = count_same _ _ n (λ x l. rw (same x l))

module _ (T R : List ℕ) (S : List Range) (marks : List ℕ) (w limit n : ℕ) (can : CanRenew T R S marks w limit n) (touched : ℕ → Bool) (kept : ℕ → Term) (below : KeptBelow touched kept)
    (marks_are : (x : ℕ) → x < n → marked marks x ≡ touched x) (kept_is : (x : ℕ) → x < n → touched x ≡ false → look R x ≡ kept x) where
  -- the rows
  pub outcome_is : (x : ℕ) → x < n → outcome T R (marked marks) w limit n x ≡ renewed (2 ^ w) limit touched (look T) kept x
  unfolding standing
  outcome_is =
      renewed_only_below (2 ^ w) limit touched (look T) kept (table_below T R S marks w limit n can) below (outcome T R (marked marks) w limit n) n
      (λ x l.
      out_eq T R S marks w limit n can x ∙
      ap (λ (b : Bool). cond b (simplified (2 ^ w) limit (look T) (outcome T R (marked marks) w limit n) x) (standing R n x)) (marks_are x l) ∙
      pick_alike (touched x) (λ (e : touched x ≡ true). refl) (λ (e : touched x ≡ false). rw (lt-ltb x n l) (kept_is x l e)))

  -- their ranges
  pub ranges_are : (x : ℕ) → x < n → range_of (2 ^ w) (outcome T R (marked marks) w limit n) x ≡ range_of (2 ^ w) (renewed (2 ^ w) limit touched (look T) kept) x
  ranges_are x l =
      range_local (λ s y. y < n) (outcome T R (marked marks) w limit n) (renewed (2 ^ w) limit touched (look T) kept)
      (λ s y h. names_widen (outcome T R (marked marks) w limit n y) (λ s' z (k : z < y). native.Mathlib.Nat.lt_trans k h) (out_below T R S marks w limit n can y))
      (λ s y h. outcome_is y h) (2 ^ w) false x l

  -- their bytes
  pub bytes_are : put_rows (marked marks) (outcome T R (marked marks) w limit n) (source_at T) n R ≡ put_rows touched (renewed (2 ^ w) limit touched (look T) kept) (source_at T) n R
  bytes_are = put_rows_same (marked marks) touched (outcome T R (marked marks) w limit n) (renewed (2 ^ w) limit touched (look T) kept) (source_at T) n R marks_are outcome_is

  -- how many reads are removed
  pub removed_is : removed_rows (look T) (outcome T R (marked marks) w limit n) n ≡ removed_rows (look T) (renewed (2 ^ w) limit touched (look T) kept) n
  removed_is = removed_same (look T) (outcome T R (marked marks) w limit n) (renewed (2 ^ w) limit touched (look T) kept) n outcome_is

  -- how many stores are compared
  pub compared_is :
      compared_rows (2 ^ w) limit (marked marks) (look T) (outcome T R (marked marks) w limit n) n ≡
      compared_rows (2 ^ w) limit touched (look T) (renewed (2 ^ w) limit touched (look T) kept) n
  compared_is =
      compared_rows_same (look T) (outcome T R (marked marks) w limit n) (renewed (2 ^ w) limit touched (look T) kept) (table_below T R S marks w limit n can)
      (out_below T R S marks w limit n can) n outcome_is (2 ^ w) limit (marked marks) touched marks_are
