-- A row of bytes: its numbers fit their fields, and with the right mark it has no other bytes than those of its numbers.
use Prim.Native.Nat.{ℕ, suc, ◌+◌, ◌-◌, ◌^◌, ◌<◌, ◌≤◌}
use native.Mathlib.Nat.{add_assoc, add-zero}
use native.Mathlib.Numerals.{add-one}
use native.Mathlib.Omega.{arith}
use mathlib.Core.Path.{◌≡◌, ap, ap₂, sym, ◌∙◌}
use mathlib.Core.Bool.{false, not, ◌||◌}
use mathlib.Core.List.{List, ◌∷◌, ◌++◌}
use lib.Dec.{eqb}
use lib.ListN.{length, take, drop}
use lib.Seq.{take-add, drop-drop, drop-cons}
use borrow.Author.Tests.{eqb-true, not-false}
use Rattle.basis.proofs.Pick.{or_left, or_right}
use Rattle.in_bytes.specs.Numbers.{byte, number, bytes, AllBytes}
use Rattle.in_bytes.proofs.Numbers.{number_below, bytes_number}
use Rattle.row.specs.Names.{LENGTH, MARK_0, MARK_1, KIND, ZERO, A, B, C, K, H, SOURCE, place}
use Rattle.row.specs.Bytes.{row_from, row_at, source_at, mark_wrong, head_of, bytes_of}

pub mark_right : (t : List ℕ) (i : ℕ) → mark_wrong t i ≡ false → (byte t i ≡ MARK_0) × (byte t (i + 1) ≡ MARK_1) × (byte t (i + ZERO) ≡ 0)
unfolding mark_wrong
mark_right t i e =
    let first = not (eqb (byte t i) MARK_0) in
    let second = not (eqb (byte t (i + 1)) MARK_1) in
    let third = not (eqb (byte t (i + ZERO)) 0) in
    let both : (first || second) ≡ false = or_left (first || second) third e in (
      eqb-true _ _ (not-false _ (or_left first second both)),
      eqb-true _ _ (not-false _ (or_right first second both)),
      eqb-true _ _ (not-false _ (or_right (first || second) third e)),
    )

-- a row with the right mark has no other bytes than those of its numbers and its source
module _ (t : List ℕ) (all : AllBytes t) (i : ℕ) (room : i + LENGTH ≤ length t) where
  -- what is left of the row from its byte off on: a byte, or a number of n bytes, and the rest
  unfoldable left : ℕ → List ℕ
  left off = take (LENGTH - off) (drop (i + off) t)

  one : (off : ℕ) → off < LENGTH → left off ≡ byte t (i + off) ∷ left (off + 1)
  unfolding left
  one off h = let size : LENGTH - off ≡ suc (LENGTH - (off + 1)) = omega arith in rw (size, drop-cons t (i + off) 0 (omega arith), ← add-one (i + off), add_assoc i off 1)

  some : (n off : ℕ) → off + n ≤ LENGTH → left off ≡ bytes n (number n t (i + off)) ++ left (off + n)
  unfolding left
  some n off h =
      let size : LENGTH - off ≡ n + (LENGTH - (off + n)) = omega arith in
      rw (size, take-add n (LENGTH - (off + n)) (drop (i + off) t), drop-drop n (i + off) t, add_assoc i off n, bytes_number n t (i + off) all (omega arith))

  numbers : left A ≡
      bytes 2 (number 2 t (i + A)) ++
      (bytes 2 (number 2 t (i + B)) ++ (bytes 2 (number 2 t (i + C)) ++ (bytes 8 (number 8 t (i + K)) ++ (bytes 8 (number 8 t (i + H)) ++ bytes 4 (number 4 t (i + SOURCE))))))
  unfolding left
  numbers =
      rw (
        some 2 A (omega arith),
        some 2 B (omega arith),
        some 2 C (omega arith),
        some 8 K (omega arith),
        some 8 H (omega arith),
        ← bytes_number 4 t (i + SOURCE) all (omega arith),
      )

  all_bytes : mark_wrong t i ≡ false → take LENGTH (drop i t) ≡ bytes_of (row_from t i) (number 4 t (i + SOURCE))
  unfolding left bytes_of head_of row_from bytes
  all_bytes mark =
      let marks = mark_right t i mark in
      let x = row_from t i in
      ap (λ (k : ℕ). take LENGTH (drop k t)) (sym (add-zero i))
      ∙ one 0 (omega arith)
      ∙ ap₂ ◌∷◌ (ap (byte t) (add-zero i) ∙ marks.0)
      (one 1 (omega arith)
      ∙ ap₂ ◌∷◌ marks.1
      (one KIND (omega arith)
      ∙ ap (λ (l : List ℕ). x.kind ∷ l)
      (one ZERO (omega arith)
      ∙ ap₂ ◌∷◌ marks.2 numbers)))

pub row_bytes_lem : (t : List ℕ) → AllBytes t → (r : ℕ) → place r + LENGTH ≤ length t → mark_wrong t (place r) ≡ false →
    take LENGTH (drop (place r) t) ≡ bytes_of (row_at t r) (source_at t r)
unfolding row_at source_at
row_bytes_lem t all r room mark = all_bytes t all (place r) room mark

-- a source fits its field
pub source_small : (t : List ℕ) (r : ℕ) → source_at t r < 2 ^ 32
unfolding source_at
source_small t r = number_below 4 t (place r + SOURCE)
