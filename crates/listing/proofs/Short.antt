-- How long a list is: at most 256 bytes for each store compared, and 256 more.
use Prim.Native.Nat.{ℕ, suc, ◌+◌, ◌*◌, ◌^◌, ◌≤◌, ◌<◌}
use native.Mathlib.Omega.{arith}
use mathlib.Core.Path.{◌≡◌, subst}
use mathlib.Core.List.{List, [], ◌∷◌}
use lib.ListN.{length, length-append}
use Rattle.range.specs.declared.Range.{Range}
use Rattle.row.specs.Names.{CONST, VAR, SHIFT, SUM, DIFF, NEG, READ, FRESH, WRITE}
use Rattle.row.specs.Bytes.{row}
use Rattle.table.specs.Refusals.{MOST}
use Rattle.term.specs.declared.Reason.{Reason}
use Rattle.term.specs.declared.Reason.TheVariants.{SamePlace, Undecided}
use Rattle.term.specs.declared.Met.{Met}
use Rattle.term.specs.Term.{Term, const, var, shift, sum, diff, neg, read, fresh, write, row_of}
use Rattle.term.specs.Walk.{Walk, found, passed, undecided, ended}
use Rattle.term.specs.Reason.{met}
use Rattle.term.specs.WellFormed.{Names, Below, WellFormed}
use Rattle.term.proofs.Follows.{Follows, finds, passes, stops, ends, spent, Each, meeting}
use Rattle.text.specs.Text.{decimal, spaced}
use Rattle.text.proofs.Decimal.{decimal_one, decimal_few, decimal_within}
use Rattle.lines.specs.Lines.{line}
use Rattle.reasons.proofs.Short.{reason_short}
use Rattle.listing.specs.List.{access_text, read_line, store_line, store_lines, found_line, stands_line, end_line, result_line, walk_lines, list, most}
use Rattle.listing.specs.Ready.{Numbered}

pub store_short : (M source i : ℕ) (s : Met) → Numbered source i s → length (store_line M source i s) ≤ 256
unfolding store_line access_text
store_short M source i s short =
    simp length-append
    (omega (
      arith,
      decimal_within 9 source (omega (arith, short.instruction)),
      decimal_within 3 s.store (omega (arith, short.store)),
      decimal_within 3 s.index (omega (arith, short.index)),
      decimal_within 3 i (omega (arith, short.sought)),
      reason_short M s.why,
    ))

one_more : {a b : ℕ} (n : ℕ) → a ≤ 256 → b ≤ 256 * n → a + b ≤ 256 * suc n
one_more n first others = omega arith

-- stores that each have such numbers, whatever row gives the instruction
abbrev pub EachNumbered : (ℕ → ℕ) → ℕ → List Met → Type 0
EachNumbered source i ss = Each (λ s. (x : ℕ) → Numbered (source x) i s) ss

stores_short : (M : ℕ) (source : ℕ → ℕ) (i : ℕ) (ss : List Met) → EachNumbered source i ss → length (store_lines M source i ss) ≤ 256 * length ss
unfolding store_lines
stores_short M source i [] short = omega arith
stores_short M source i (s ∷ ss) short = rw length-append (one_more (length ss) (store_short M _ i s (short.0 _)) (stores_short M source i ss short.1))

-- a walk from a row of a table on, whose index is one too, compares such stores
module _ (M : ℕ) (f : ℕ → Term) (g : ℕ → Range) (source : ℕ → ℕ) (i : ℕ) (formed : WellFormed M f) (recorded : (x : ℕ) → source x < 2 ^ 32) (sought : i < MOST) where
  module _ (m a b c : ℕ) (is : f m ≡ write a b c) (few : m < MOST) where
    named : Names (Below f m) (write a b c)
    named = subst (Names (Below f m)) is (formed.names m)

    numbered : (why : Reason) (x : ℕ) → Numbered (source x) i (meeting m b why)
    numbered why x = record { instruction = recorded x; store = few; index = omega (arith, named.1.below); sought = sought }

  pub each_numbered : {left m : ℕ} {steps : List Met} {w : Walk} → Follows f g i left m steps w → m < MOST → EachNumbered source i steps
  each_numbered (finds e k) few = (numbered _ _ _ _ e few SamePlace, tt)
  each_numbered (passes {m = m} {a = a} {why = why} e k apart on) few =
      (numbered _ _ _ _ e few why, each_numbered on (omega (arith, (named m a _ _ e few).0.below)))
  each_numbered (stops e k) few = (numbered _ _ _ _ e few Undecided, tt)
  each_numbered (ends n) few = tt
  each_numbered spent few = tt

pub read_short : (source r m i : ℕ) → r < 10000 → length (read_line source r m i) ≤ 100
unfolding read_line access_text
read_short source r m i few =
    simp length-append (omega (arith, decimal_few source, decimal_within 3 r few, decimal_few m, decimal_few i))

pub end_short : (w : Walk) → length (end_line w) ≤ 37
unfolding end_line found_line stands_line
end_short (found m c) = simp length-append (omega (arith, decimal_few c))
end_short (passed m onward) = end_short onward
end_short (undecided m) = simp length-append (omega (arith, decimal_few m))
end_short (ended m) = simp length-append (omega (arith, decimal_few m))

-- ---- the result line: its kind is one digit, of the five numbers behind it a row uses three at most, and the rest are zero

zero_short : length (decimal 0) ≡ 1
zero_short = rw (decimal_one 0 (omega arith))

line_few : (r kind a b c k h source : ℕ) → r < 10000 → kind < 10
    → length (line r (row kind a b c k h) source) ≤ length (decimal a) + length (decimal b) + length (decimal c) + length (decimal k) + length (decimal h) + 33
unfolding line spaced
line_few r kind a b c k h source few one =
    simp length-append (omega (arith, decimal_within 3 r few, decimal_within 0 kind one, decimal_few source))

line_short : (r : ℕ) (t : Term) (source : ℕ) → r < 10000 → length (line r (row_of t) source) ≤ 95
unfolding row_of
line_short r (const k) source few = omega (arith, line_few r CONST 0 0 0 k 0 source few (omega arith), zero_short, decimal_few k)
line_short r (var name k h) source few = omega (arith, line_few r VAR name 0 0 k h source few (omega arith), zero_short, decimal_few name, decimal_few k, decimal_few h)
line_short r (shift a k) source few = omega (arith, line_few r SHIFT a 0 0 k 0 source few (omega arith), zero_short, decimal_few a, decimal_few k)
line_short r (sum a b k) source few = omega (arith, line_few r SUM a b 0 k 0 source few (omega arith), zero_short, decimal_few a, decimal_few b, decimal_few k)
line_short r (diff a b k) source few = omega (arith, line_few r DIFF a b 0 k 0 source few (omega arith), zero_short, decimal_few a, decimal_few b, decimal_few k)
line_short r (neg a k) source few = omega (arith, line_few r NEG a 0 0 k 0 source few (omega arith), zero_short, decimal_few a, decimal_few k)
line_short r (read a b) source few = omega (arith, line_few r READ a b 0 0 0 source few (omega arith), zero_short, decimal_few a, decimal_few b)
line_short r fresh source few = omega (arith, line_few r FRESH 0 0 0 0 0 source few (omega arith), zero_short)
line_short r (write a b c) source few = omega (arith, line_few r WRITE a b c 0 0 source few (omega arith), zero_short, decimal_few a, decimal_few b, decimal_few c)

pub result_short : (r : ℕ) (t : Term) (source : ℕ) → r < 10000 → length (result_line r (row_of t) source) ≤ 102
unfolding result_line
result_short r t source few = simp length-append (omega (arith, line_short r t source few))

-- ---- the whole, of a row number of at most four digits

pub list_short : (M : ℕ) (f : ℕ → Term) (g : ℕ → Range) (source : ℕ → ℕ) (r m i : ℕ) (w : Walk) (t : Term) → r < 10000
    → EachNumbered source i (met f g i w) → length (list M f g source r m i w (row_of t)) ≤ most (length (met f g i w))
unfolding list walk_lines
list_short M f g source r m i w t few short =
    simp length-append
    (omega (arith, read_short (source r) r m i few, stores_short M source i (met f g i w) short, end_short w, result_short r t (source r) few))
