-- The range of a row is had from those of the rows that it names, and this settles it: what the store of ranges keeps, row after row.
use Prim.Native.Nat.{ℕ, zero, suc, ◌<◌}
use native.Mathlib.Nat.{le_of_suc-le-suc, not-suc-le-zero, lt_of_lt_of_le, lt-suc_self}
use mathlib.Core.Path.{◌≡◌}
use mathlib.Core.Bool.{false}
use Rattle.term.specs.Term.{Term}
use Rattle.term.specs.Relation.{range_by, range_down, range_of}
use Rattle.term.proofs.Names.{NamesBelow, names_widen}
use Rattle.term.proofs.Local.{range_by_local}

module _ (M : ℕ) (f : ℕ → Term) (low : NamesBelow f) where
  -- from x + 1 references down on, one more changes nothing
  range_deep : (d e x : ℕ) → x < d → x < e → range_down M f d x ≡ range_down M f e x
  unfolding range_down
  range_deep zero e x l k = absurd (not-suc-le-zero l)
  range_deep (suc d) zero x l k = absurd (not-suc-le-zero k)
  range_deep (suc d) (suc e) x l k =
      range_by_local M (range_down M f d) (range_down M f e) (f x)
      (names_widen {W = λ s y. s ≡ false → range_down M f d y ≡ range_down M f e y} (f x)
      (λ s y (h : y < x) word. range_deep d e y (lt_of_lt_of_le h (le_of_suc-le-suc l)) (lt_of_lt_of_le h (le_of_suc-le-suc k))) (low x))

  pub range_eq : (x : ℕ) → range_of M f x ≡ range_by M (range_of M f) (f x)
  unfolding range_of range_down
  range_eq x =
      range_by_local M (range_down M f x) (range_of M f) (f x)
      (names_widen {W = λ s y. s ≡ false → range_down M f x y ≡ range_of M f y} (f x) (λ s y (h : y < x) word. range_deep x (suc y) y h (lt-suc_self y)) (low x))
