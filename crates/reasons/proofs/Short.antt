-- How long a reason is: at most 194 bytes.
use Prim.Native.Nat.{ℕ, ◌-◌, ◌≤◌}
use native.Mathlib.Omega.{arith}
use mathlib.Core.List.{List}
use lib.ListN.{length, length-append}
use Rattle.basis.proofs.Pick.{pick_case}
use Rattle.range.specs.declared.Range.{Range}
use Rattle.pieces.specs.Pieces.{Piece, piece}
use Rattle.range.specs.Range.{is_two, pieces}
use Rattle.term.specs.declared.Reason.{Reason}
use Rattle.term.specs.declared.Reason.TheVariants.{SamePlace, Offsets, Separate, Undecided}
use Rattle.text.proofs.Decimal.{decimal_few}
use Rattle.reasons.specs.Reasons.{piece_text, pieces_text, range_text, offsets_text, reason_text}

piece_short : (p : Piece) → length (piece_text p) ≤ 42
unfolding piece_text
piece_short p = simp length-append (omega (arith, decimal_few p.lo, decimal_few p.hi))

range_short : (M : ℕ) (a : Range) → length (range_text M a) ≤ 86
unfolding range_text pieces_text pieces
range_short M a =
    pick_case (λ (ps : List Piece). length (pieces_text ps) ≤ 86) (is_two a)
    (λ _. simp length-append (omega (arith, piece_short (piece 0 a.hi), piece_short (piece a.lo (M - 1)))))
    (λ _. omega (arith, piece_short (piece a.lo a.hi)))

pub reason_short : (M : ℕ) (why : Reason) → length (reason_text M why) ≤ 194
unfolding reason_text offsets_text
reason_short M SamePlace = omega arith
reason_short M (Offsets p q) = simp length-append (omega (arith, decimal_few p, decimal_few q))
reason_short M (Separate spans) = simp length-append (omega (arith, range_short M spans.store, range_short M spans.read))
reason_short M Undecided = omega arith
