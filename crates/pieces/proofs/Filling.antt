-- What filling leaves, of any pieces in order: two pieces, with the widest gap between them, and of equal gaps the highest. Assumes nothing.
use mathlib.Core.Path.{◌≡◌, refl, sym, ap, ap₂, ◌∙◌}
use mathlib.Core.Bool.{true, false, cond}
use mathlib.Core.List.{List, [], ◌∷◌}
use Prim.Native.Nat.{ℕ, zero, suc, ◌+◌, ◌-◌, ◌≤◌, ◌<◌, min}
use native.Mathlib.Nat.{min-le_left, min-le_right}
use native.Mathlib.Omega.{arith}
use lib.ListN.{length}
use lib.Dec.{ltb, eqb}
use borrow.Author.Tests.{ltb-true, ltb-false, lt-ltb, le-ltb, eqb-true, eqb-false}
use Rattle.basis.proofs.Pick.{pick_case, min_case}
use Rattle.pieces.specs.Pieces.{Piece, piece, gap, smallest, filled, fill, fewest}
use Rattle.pieces.proofs.Unions.{Ordered}

ruleset tests = (arith, ltb-true, ltb-false, eqb-true, eqb-false)

-- the smallest gap is filled, of two equal ones the lower, until two pieces remain
smallest_filled : fewest (piece 0 0 ∷ piece 5 5 ∷ piece 7 7 ∷ []) ≡ piece 0 0 ∷ piece 5 7 ∷ []
unfolding fewest fill filled smallest gap
smallest_filled = refl

lower_filled : fewest (piece 0 1 ∷ piece 4 5 ∷ piece 8 9 ∷ []) ≡ piece 0 5 ∷ piece 8 9 ∷ []
unfolding fewest fill filled smallest gap
lower_filled = refl

two_filled : fewest (piece 0 0 ∷ piece 2 2 ∷ piece 9 9 ∷ piece 13 13 ∷ []) ≡ piece 0 2 ∷ piece 9 13 ∷ []
unfolding fewest fill filled smallest gap
two_filled = refl

-- a gap by the numbers at its two sides
pub record Sides : Type 0 where
  pub under : ℕ
  pub over : ℕ

abbrev pub sides : ℕ → ℕ → Sides
sides e n = record { under = e; over = n }

-- the wider of two gaps, of equal ones the second
unfoldable pub wider : Sides → Sides → Sides
wider g h = cond (ltb (h.over - h.under) (g.over - g.under)) g h

-- the widest gap of pieces that follow a piece which ends at e, of equal ones the highest
unfoldable pub widest : ℕ → List Piece → Sides
widest e [] = sides e e
widest e (q ∷ qs) = wider (sides e q.lo) (widest q.hi qs)

-- where they end
unfoldable pub ending : ℕ → List Piece → ℕ
ending e [] = e
ending e (q ∷ qs) = ending q.hi qs

-- from lo to hi, less a gap
abbrev less : ℕ → Sides → ℕ → List Piece
less lo s hi = piece lo s.under ∷ piece s.over hi ∷ []

-- from the first to the last, less the widest gap
unfoldable pub less_widest : List Piece → List Piece
less_widest [] = []
less_widest (p ∷ ps) = less p.lo (widest p.hi ps) (ending p.hi ps)

wide_first : (g h : Sides) → h.over - h.under < g.over - g.under → wider g h ≡ g
unfolding wider
wide_first g h l = rw (lt-ltb (h.over - h.under) (g.over - g.under) l)

wide_second : (g h : Sides) → g.over - g.under ≤ h.over - h.under → wider g h ≡ h
unfolding wider
wide_second g h l = rw (le-ltb (h.over - h.under) (g.over - g.under) l)

-- no narrower than the first gap
wide_as_first : (e : ℕ) (q : Piece) (qs : List Piece) → q.lo - e ≤ (widest e (q ∷ qs)).over - (widest e (q ∷ qs)).under
unfolding widest wider
wide_as_first e q qs =
    pick_case (λ (s : Sides). q.lo - e ≤ s.over - s.under) (ltb ((widest q.hi qs).over - (widest q.hi qs).under) (q.lo - e))
    (λ _. omega arith)
    (λ (t : ltb ((widest q.hi qs).over - (widest q.hi qs).under) (q.lo - e) ≡ false). omega tests)

-- the smallest is that of the first gap or that of the others
other_smallest : (x y g : ℕ) → min x y ≡ g → (x ≡ g → ⊥) → y ≡ g
other_smallest x y g = min_case (λ (k : ℕ). k ≡ g → (x ≡ g → ⊥) → y ≡ g) x y (λ e n. absurd (n e)) (λ e n. e)

-- ---- one gap is filled

module _ (g : ℕ) where
  filled_ordered : (from : ℕ) (ps : List Piece) → Ordered from ps → Ordered from (filled g ps)
  unfolding filled
  filled_ordered from [] o = o
  filled_ordered from (p ∷ []) o = o
  filled_ordered from (p ∷ q ∷ rest) (b, (c, o)) =
      pick_case (Ordered from) (eqb (gap p q) g)
      (λ _. (omega arith, o))
      (λ _. (b, filled_ordered (p.hi + 2) (q ∷ rest) (c, o)))

  filled_length : (ps : List Piece) → 2 ≤ length ps → smallest ps ≡ g → suc (length (filled g ps)) ≡ length ps
  unfolding filled smallest
  filled_length [] l e = absurd (omega arith)
  filled_length (p ∷ []) l e = absurd (omega arith)
  filled_length (p ∷ q ∷ []) l e =
      pick_case (λ (ps : List Piece). suc (length ps) ≡ 2) (eqb (gap p q) g)
      (λ _. refl)
      (λ (t : eqb (gap p q) g ≡ false). absurd (eqb-false (gap p q) g t e))
  filled_length (p ∷ q ∷ r ∷ rest) l e =
      pick_case (λ (ps : List Piece). suc (length ps) ≡ suc (suc (suc (length rest)))) (eqb (gap p q) g)
      (λ _. refl)
      (λ (t : eqb (gap p q) g ≡ false).
      ap suc (filled_length (q ∷ r ∷ rest) (omega arith) (other_smallest (gap p q) (smallest (q ∷ r ∷ rest)) g e (eqb-false (gap p q) g t))))

  filled_ending : (e : ℕ) (ps : List Piece) → ending e (filled g ps) ≡ ending e ps
  unfolding filled ending
  filled_ending e [] = refl
  filled_ending e (p ∷ []) = refl
  filled_ending e (p ∷ q ∷ rest) =
      pick_case (λ (ps : List Piece). ending e ps ≡ ending q.hi rest) (eqb (gap p q) g)
      (λ _. refl)
      (λ _. filled_ending p.hi (q ∷ rest))

smallest_under : (p q : Piece) (rest : List Piece) → smallest (p ∷ q ∷ rest) ≤ gap p q
unfolding smallest
smallest_under p q [] = omega arith
smallest_under p q (r ∷ rest) = min-le_left (gap p q) (smallest (q ∷ r ∷ rest))

next_under : (p q r : Piece) (rest : List Piece) → smallest (p ∷ q ∷ r ∷ rest) ≤ gap q r
unfolding smallest
next_under p q r rest = omega (arith, min-le_right (gap p q) (smallest (q ∷ r ∷ rest)), smallest_under q r rest)

module _ (g : ℕ) where
  -- the widest gap stays, where the gap before the first piece is wider than the one that is filled
  filled_widest : (e : ℕ) (ps : List Piece) → 2 ≤ length ps → Ordered (e + g + 2) ps → smallest ps ≡ g → widest e (filled g ps) ≡ widest e ps
  unfolding filled smallest widest gap
  filled_widest e [] l o s = absurd (omega arith)
  filled_widest e (q ∷ []) l o s = absurd (omega arith)
  filled_widest e (q ∷ r ∷ []) l (b, (c, o)) s =
      let last = sides q.hi r.lo in
      pick_case (λ (ps : List Piece). widest e ps ≡ widest e (q ∷ r ∷ [])) (eqb (gap q r) g)
      (λ _.
      wide_first (sides e q.lo) (sides r.hi r.hi) (omega arith) ∙
      sym (wide_first (sides e q.lo) last (omega arith)) ∙
      ap (wider (sides e q.lo)) (sym (wide_first last (sides r.hi r.hi) (omega arith))))
      (λ (t : eqb (gap q r) g ≡ false). absurd (eqb-false (gap q r) g t s))
  filled_widest e (q ∷ r ∷ s ∷ rest) l (b, (c, (d, o))) small =
      pick_case (λ (ps : List Piece). widest e ps ≡ widest e (q ∷ r ∷ s ∷ rest)) (eqb (gap q r) g)
      (λ (t : eqb (gap q r) g ≡ true).
      ap (wider (sides e q.lo))
      (sym (wide_second (sides q.hi r.lo) (widest r.hi (s ∷ rest))
      (omega (tests, wide_as_first r.hi s rest, next_under q r s rest)))))
      (λ (t : eqb (gap q r) g ≡ false).
      let n = eqb-false (gap q r) g t in
      ap (wider (sides e q.lo))
      (filled_widest q.hi (r ∷ s ∷ rest) (omega arith)
      (omega (arith, smallest_under q r (s ∷ rest), n), (d, o))
      (other_smallest (gap q r) (smallest (r ∷ s ∷ rest)) g small n)))

-- filling one gap of two or more takes nothing from what will be left
filled_left : (from : ℕ) (ps : List Piece) → Ordered from ps → 3 ≤ length ps → less_widest (filled (smallest ps) ps) ≡ less_widest ps
unfolding less_widest filled widest ending smallest gap
filled_left from [] o l = absurd (omega arith)
filled_left from (p ∷ []) o l = absurd (omega arith)
filled_left from (p ∷ q ∷ []) o l = absurd (omega arith)
filled_left from (p ∷ q ∷ r ∷ rest) (b, (c, (d, o))) l =
    let g = smallest (p ∷ q ∷ r ∷ rest) in
    pick_case (λ (ps : List Piece). less_widest ps ≡ less_widest (p ∷ q ∷ r ∷ rest)) (eqb (gap p q) g)
    (λ (t : eqb (gap p q) g ≡ true).
    ap (λ (s : Sides). less p.lo s (ending q.hi (r ∷ rest)))
    (sym (wide_second (sides p.hi q.lo) (widest q.hi (r ∷ rest))
    (omega (tests, wide_as_first q.hi r rest, next_under p q r rest)))))
    (λ (t : eqb (gap p q) g ≡ false).
    let n = eqb-false (gap p q) g t in
    ap₂ (less p.lo)
    (filled_widest g p.hi (q ∷ r ∷ rest) (omega arith)
    (omega (arith, smallest_under p q (r ∷ rest), n), (d, o))
    (other_smallest (gap p q) (smallest (q ∷ r ∷ rest)) g refl n))
    (filled_ending g p.hi (q ∷ r ∷ rest)))

two_left : (from : ℕ) (ps : List Piece) → Ordered from ps → length ps ≡ 2 → ps ≡ less_widest ps
unfolding less_widest widest ending
two_left from [] o e = absurd (omega arith)
two_left from (p ∷ []) o e = absurd (omega arith)
two_left from (p ∷ q ∷ []) (b, (c, o)) e =
    ap (λ (s : Sides). less p.lo s q.hi) (sym (wide_first (sides p.hi q.lo) (sides q.hi q.hi) (omega arith)))
two_left from (p ∷ q ∷ r ∷ rest) o e = absurd (omega arith)

fill_left : (from n : ℕ) (ps : List Piece) → Ordered from ps → length ps ≡ suc (suc n) → fill n ps ≡ less_widest ps
unfolding fill
fill_left from zero ps o e = two_left from ps o e
fill_left from (suc n) ps o e =
    let g = smallest ps in
    fill_left from n (filled g ps) (filled_ordered g from ps o) (omega (arith, filled_length g ps (omega arith) refl)) ∙
    filled_left from ps o (omega arith)

-- of two pieces or more, filling leaves the widest gap
pub fewest_left : (from : ℕ) (p q : Piece) (rest : List Piece) → Ordered from (p ∷ q ∷ rest) → fewest (p ∷ q ∷ rest) ≡ less_widest (p ∷ q ∷ rest)
unfolding fewest
fewest_left from p q rest o = fill_left from (length (p ∷ q ∷ rest) - 2) (p ∷ q ∷ rest) o (omega arith)
