-- What kinds use, kind by kind, and what a reference field that passed 13 names.
use Prim.Native.Nat.{ℕ, ◌<◌}
use mathlib.Core.Path.{◌≡◌, refl, ap}
use mathlib.Core.Bool.{true, false}
use borrow.Author.Tests.{eq-eqb, leb-false}
use Rattle.row.specs.declared.Row.{Row}
use Rattle.table.specs.declared.Uses.{Uses}
use Rattle.table.specs.declared.Sort.{Sort}
use Rattle.table.specs.declared.Sort.TheVariants.{Word, Array}
use Rattle.table.specs.declared.Use.{Use}
use Rattle.table.specs.declared.Use.TheVariants.{Unused, Name, Refers, Other}
use Rattle.table.specs.Uses.{is_sort, is_reference, refers_to, uses, uses_of}
use Rattle.table.specs.Refusals.{reference, use_at, not_below, other_bounds}

-- 0 is no kind
pub kind_zero_uses : (k : ℕ) → k ≡ 0 → uses_of k ≡ uses Unused Unused Unused false false
unfolding uses_of
kind_zero_uses k e = rw e

-- what refers to a row of a sort, and what two sorts are
pub sort_true : (s other : Sort) → is_sort s other ≡ true → s ≡ other
unfolding is_sort
sort_true Word Word e = refl
sort_true Array Array e = refl
sort_true Word Array e = cc
sort_true Array Word e = cc

pub sort_same : (s : Sort) → is_sort s s ≡ true
unfolding is_sort
sort_same Word = refl
sort_same Array = refl

pub refers_true : (s : Sort) (u : Use) → refers_to s u ≡ true → Refers s ≡ u
unfolding refers_to
refers_true s Unused e = cc
refers_true s Name e = cc
refers_true s (Refers other) e = ap Refers (sort_true s other e)
refers_true s (Other n) e = cc

pub refers_same : (s : Sort) (u : Use) → Refers s ≡ u → refers_to s u ≡ true
unfolding refers_to
refers_same s u e = rw (← e) (sort_same s)

pub refers_below : (r : ℕ) (u : Uses) (x : Row) (f : ℕ) → not_below r u x f ≡ false → is_reference (use_at u f) ≡ true → reference x f < r
unfolding not_below
refers_below r u x f e refers = leb-false r (reference x f) (rw refers at e)

-- a row states its own bounds
pub same_bounds : (x : Row) → other_bounds x x ≡ false
unfolding other_bounds
same_bounds x = rw (eq-eqb x.k x.k refl, eq-eqb x.h x.h refl)
