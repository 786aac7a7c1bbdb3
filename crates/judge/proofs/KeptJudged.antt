-- Each way out of the functions that judge a kept result, 16.
use Prim.Native.Nat.{ℕ, zero, suc, ◌+◌, ◌≤◌, ◌<◌}
use native.Mathlib.Omega.{arith}
use mathlib.Core.Path.{◌≡◌, refl, ap, ap₂, sym, ◌∙◌}
use mathlib.Core.Bool.{Bool, true, false, beq, not, true≢false}
use mathlib.Core.List.{List}
use lib.ListN.{length, get_or, take}
use lib.Seq.{length-take-le, get_or-take, ext_get_or}
use lib.Pointwise.{pointwise, bytes_decides}
use lib.Dec.{eqb}
use borrow.Author.Tests.{eq-eqb, ne_eqb, eqb-true, not-false}
use Rattle.std.specs.Prelude.{Result, Ok, Err, is_err}
use Rattle.basis.specs.Count.{any_below}
use Rattle.basis.proofs.Pick.{test_case, or_true_left, or_true_right, or_false}
use Rattle.basis.proofs.Counts.{any_zero, any_next, any_here, any_none}
use Rattle.row.specs.Names.{HEADER, LENGTH, place}
use Rattle.in_bytes.specs.Numbers.{Read, byte}
use Rattle.row.proofs.Places.{header_below, room_below}
use Rattle.table.specs.Verdict.{Verdict}
use Rattle.table.specs.declared.Refusal.{Refusal}
use Rattle.table.specs.Fault.{number_of, verdict_of}
use Rattle.table.proofs.Told.{fault_some}
use Rattle.table.specs.Refusals.{rows, check_table}
use Rattle.term.specs.Term.{is_array}
use Rattle.term.specs.Bytes.{look}
use Rattle.judge.specs.Verdict.{is_accepted}
use Rattle.judge.specs.Kept.{kept_part, other_header, other_sorts, kept_wrong}
use Rattle.judge.specs.Judge.{Beside, Holding}

pub beside_header : (t kept : List ℕ) → Beside t kept → HEADER ≤ length t
beside_header t kept both = rw both.size (header_below (rows t))

-- ---- the headers

abbrev head_test : List ℕ → List ℕ → ℕ → Bool
head_test t kept i = not (eqb (byte kept i) (byte t i))

none_passes : (test : ℕ → Bool) (n : ℕ) → ((i : ℕ) → i < n → test i ≡ false) → any_below test n ≡ false
unfolding any_below
none_passes test zero h = refl
none_passes test (suc n) h = or_false (any_below test n) (test n) (none_passes test n (λ i l. h i (omega arith))) (h n (omega arith))

module _ (t kept : List ℕ) (both : Beside t kept) where
  head_long : HEADER ≤ length t
  head_long = beside_header t kept both

  head_long_kept : HEADER ≤ length kept
  head_long_kept = rw both.same head_long

  pub head_count : HEADER ≡ length (take HEADER t)
  head_count = sym (length-take-le HEADER t head_long)

  pub head_count_kept : HEADER ≡ length (take HEADER kept)
  head_count_kept = sym (length-take-le HEADER kept head_long_kept)

  -- compared as slices
  abbrev same_heads : Bool
  same_heads = pointwise eqb (take HEADER kept) (take HEADER t)

  heads_agree : same_heads ≡ true → other_header t kept ≡ false
  unfolding other_header
  heads_agree e =
      none_passes (head_test t kept) HEADER (λ i l. ap not (eq-eqb (byte kept i) (byte t i)
      (sym (get_or-take HEADER kept i 0 l) ∙ ap (λ (bytes : List ℕ). get_or bytes i 0) ((bytes_decides _ _).0 e) ∙ get_or-take HEADER t i 0 l)))

  heads_same : other_header t kept ≡ false → same_heads ≡ true
  unfolding other_header
  heads_same e =
      let shorter : length (take HEADER kept) ≡ HEADER = length-take-le HEADER kept head_long_kept in
      (bytes_decides _ _).1 (ext_get_or 0 _ _ (shorter ∙ sym (length-take-le HEADER t head_long)) (λ i l.
      let low : i < HEADER = rw shorter at l in
      get_or-take HEADER kept i 0 low ∙
      eqb-true (byte kept i) (byte t i) (not-false _ (any_none (head_test t kept) HEADER e i low)) ∙
      sym (get_or-take HEADER t i 0 low)))

  pub heads_told : {b : Bool} → b ≡ not same_heads → b ≡ other_header t kept
  heads_told is =
      is ∙
      test_case same_heads (λ (e : same_heads ≡ true). ap not e ∙ sym (heads_agree e))
      (λ (e : same_heads ≡ false). ap not e ∙
      test_case (other_header t kept) (λ (f : other_header t kept ≡ true). sym f)
      (λ (f : other_header t kept ≡ false). absurd (true≢false (sym (heads_same f) ∙ e))))

-- ---- the sorts

abbrev sort_test : List ℕ → List ℕ → ℕ → Bool
sort_test t kept x = not (beq (is_array (look kept x)) (is_array (look t x)))

pub record SortedSoFar (t kept : List ℕ) (x : ℕ) : Type 0 where
  pub none : any_below (sort_test t kept) x ≡ false

module _ (t kept : List ℕ) where
  pub sorts_begun : SortedSoFar t kept 0
  sorts_begun = record { none = any_zero (sort_test t kept) }

  module _ {n x : ℕ} (few : Read (rows t) 65536 n) where
    pub sort_place : Beside t kept → x < n → place x + LENGTH ≤ length t
    sort_place both l = rw (both.size, ← few.is) (room_below l)

    pub sort_place_kept : Beside t kept → x < n → place x + LENGTH ≤ length kept
    sort_place_kept both l = rw both.same (sort_place both l)

    module _ {a b : Bool} (kept_is : a ≡ is_array (look kept x)) (is : b ≡ is_array (look t x)) (l : x < n) where
      told : sort_test t kept x ≡ not (beq a b)
      told = sym (ap₂ (λ (p q : Bool). not (beq p q)) kept_is is)

      pub sorts_differ : not (beq a b) ≡ true → true ≡ other_sorts t kept
      unfolding other_sorts
      sorts_differ e = sym (any_here (sort_test t kept) (rows t) x (rw few.is at l) (told ∙ e))

      pub sorts_next : SortedSoFar t kept x → not (beq a b) ≡ false → SortedSoFar t kept (x + 1)
      sorts_next so e = record { none = any_next (sort_test t kept) x so.none (told ∙ e) }

  pub sorts_same : {n x : ℕ} → Read (rows t) 65536 n → SortedSoFar t kept x → x ≤ n → n ≤ x → false ≡ other_sorts t kept
  unfolding other_sorts
  sorts_same {n} {x} few so low high = let e : x ≡ rows t = omega (arith, few.is) in sym (rw e at so.none)

-- ---- the part of the kept result

refused_told : (r : Result (Unit {0}) Refusal) → is_err r ≡ not (is_accepted (verdict_of r))
unfolding is_accepted
refused_told (Ok _) = refl
refused_told (Err refusal) = sym (ap not (ne_eqb (number_of refusal.fault) 0 (fault_some refusal.fault)))

module _ (t part : List ℕ) (r : Result (Unit {0}) Refusal) (checked : verdict_of r ≡ check_table part) {refused : Bool} (is : refused ≡ is_err r) where
  judged : not (is_accepted (check_table part)) ≡ refused
  judged = sym (is ∙ refused_told r ∙ ap (λ (v : Verdict). not (is_accepted v)) checked)

  pub part_refused : refused ≡ true → true ≡ kept_wrong t part
  unfolding kept_wrong
  part_refused e =
      sym (or_true_left _ (other_sorts t part) (or_true_left _ (other_header t part) (judged ∙ e)))

  pub part_head : {b : Bool} → b ≡ other_header t part → b ≡ true → b ≡ kept_wrong t part
  unfolding kept_wrong
  part_head is h =
      h ∙ sym (or_true_left _ (other_sorts t part) (or_true_right (not (is_accepted (check_table part))) (other_header t part) (sym is ∙ h)))

  pub part_sorts : refused ≡ false → {b c : Bool} → b ≡ other_header t part → b ≡ false → c ≡ other_sorts t part → c ≡ kept_wrong t part
  unfolding kept_wrong
  part_sorts e is h sorts = sorts ∙ sym (rw (judged ∙ e, sym is ∙ h))

-- ---- the kept result

module _ (t kept : List ℕ) (both : Holding t kept) where
  pub part_long : length t ≡ length (take (length t) kept)
  part_long = sym (length-take-le (length t) kept both.room)

  pub part_beside : Beside t (take (length t) kept)
  part_beside = record { size = both.size; same = sym part_long }

  pub part_is : {b : Bool} → b ≡ kept_wrong t (take (length t) kept) → b ≡ kept_wrong t (kept_part t kept)
  unfolding kept_part
  part_is e = e ∙ ap (λ (n : ℕ). kept_wrong t (take n kept)) both.size
