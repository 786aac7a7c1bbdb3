-- Reasons, put together from the texts that the calls wrote.
use Prim.Native.Nat.{ℕ, ◌+◌, ◌-◌, ◌≤◌}
use native.Mathlib.Nat.{le_refl}
use native.Mathlib.Omega.{arith}
use mathlib.Core.Path.{◌≡◌}
use mathlib.Core.Bool.{Bool, true, false}
use mathlib.Core.List.{List, ◌++◌, append_assoc}
use Rattle.range.specs.declared.Range.{Range}
use Rattle.pieces.specs.Pieces.{piece}
use Rattle.range.specs.Range.{is_two, pieces}
use Rattle.text.specs.declared.Text.{Text}
use Rattle.text.specs.Text.{ascii, Wrote}
use Rattle.text.proofs.Puts.{wrote_then, wrote_capped}
use Rattle.reasons.specs.Reasons.{piece_text, pieces_text, range_text}

-- a text, and one that begins with a word
pub wrote_onto : {a b c : Text} {xs : List ℕ} (word ys : List ℕ) {i j k : ℕ} → Wrote a xs i b → Wrote b (word ++ ys) j c → i + j ≤ k → Wrote a (xs ++ word ++ ys) k c
wrote_onto {xs = xs} word ys first second cap = rw (append_assoc xs word ys) (wrote_then first second cap)

-- .. whose last part ends a line
pub wrote_last : {a b c : Text} {xs : List ℕ} (word ys zs : List ℕ) {i j k : ℕ} → Wrote a xs i b → Wrote b (word ++ ys ++ zs) j c → i + j ≤ k → Wrote a (xs ++ word ++ ys ++ zs) k c
wrote_last {xs = xs} word ys zs first second cap = rw (append_assoc xs word ys, append_assoc xs (word ++ ys) zs) (wrote_then first second cap)

-- a range of one piece, and of two
module _ {t u : Text} (top : ℕ) (a : Range) {two : Bool} (told : two ≡ is_two a) where
  pub one_put : two ≡ false → Wrote t (piece_text (piece a.lo a.hi)) 42 u → Wrote t (range_text (top + 1) a) 86 u
  unfolding range_text pieces_text pieces
  one_put e whole = rw (← told, e) (wrote_capped whole (omega arith))

  pub two_put : {v w : Text} → two ≡ true → Wrote t (piece_text (piece 0 a.hi)) 42 u → Wrote u (ascii ", ") 2 v → Wrote v (piece_text (piece a.lo top)) 42 w
      → Wrote t (range_text (top + 1) a) 86 w
  unfolding range_text pieces_text pieces
  two_put e low parted high =
      let last : top + 1 - 1 ≡ top = omega arith in
      rw (← told, e, last) (wrote_then (wrote_then low parted (le_refl 44)) high (le_refl 86))
