-- The line, put together from the texts that the calls wrote.
use Prim.Native.Nat.{ℕ}
use native.Mathlib.Nat.{le_refl}
use mathlib.Core.Path.{◌≡◌}
use mathlib.Core.List.{◌++◌}
use Rattle.term.specs.declared.Relation.{Relation}
use Rattle.term.specs.declared.Reason.{Reason}
use Rattle.term.specs.Reason.{known_by}
use Rattle.text.specs.declared.Text.{Text}
use Rattle.text.specs.Text.{ascii, Wrote}
use Rattle.text.proofs.Puts.{wrote_then}
use Rattle.reasons.specs.Reasons.{reason_text}
use Rattle.reasons.proofs.Written.{wrote_last}
use Rattle.compare.specs.Line.{relation_text, rows_text, line, LONGEST}

pub line_put : {a b c d e : Text} (M x y : ℕ) (why : Reason) {known : Relation}
    → Wrote a (rows_text x y) 50 b → Wrote b (ascii ": ") 2 c → known ≡ known_by why → Wrote c (relation_text known) 9 d
    → Wrote d (ascii ", " ++ reason_text M why ++ ascii "\n") 197 e
    → Wrote a (line M x y why) LONGEST e
unfolding line
line_put M x y why rows parted told relation reason =
    wrote_last (ascii ", ") (reason_text M why) (ascii "\n")
    (wrote_then (wrote_then rows parted (le_refl 52)) (rw told at relation) (le_refl 61)) reason (le_refl 258)
