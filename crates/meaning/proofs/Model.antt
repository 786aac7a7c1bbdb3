-- Models: meanings of all rows that make every row true under a choice. Nothing is said of how they were found.
use Prim.Native.Nat.{ℕ, ◌≤◌, ◌<◌}
use mathlib.Core.Path.{◌≡◌}
use Rattle.range.specs.declared.Range.{Range}
use Rattle.range.specs.Range.{Within}
use Rattle.term.specs.Term.{Term, const, var, shift, sum, diff, neg, read, fresh, write}
use Rattle.term.specs.WellFormed.{Fits}
use Rattle.meaning.specs.Meaning.{Choice, Meaning, meaning_by}

-- the choice keeps to the bounds of row x, where the given term is a VAR
abbrev pub Bounds : Choice → ℕ → Term → Type 0
Bounds choice x (const k) = Unit {0}
Bounds choice x (var name k h) = (k ≤ choice.word x) × (choice.word x ≤ h)
Bounds choice x (shift a k) = Unit {0}
Bounds choice x (sum a b k) = Unit {0}
Bounds choice x (diff a b k) = Unit {0}
Bounds choice x (neg a k) = Unit {0}
Bounds choice x (read a b) = Unit {0}
Bounds choice x fresh = Unit {0}
Bounds choice x (write a b c) = Unit {0}

-- a term may stand as row x, and means v there, where the rows that it names mean `of`
pub record Holds (M : ℕ) (choice : Choice) (of : ℕ → Meaning) (x : ℕ) (t : Term) (v : Meaning) : Type 0 where
  pub fits : Fits M t
  pub bounds : Bounds choice x t
  pub means : meaning_by M choice of x t ≡ v

-- the rows f mean `of`
pub record Model (M : ℕ) (choice : Choice) (f : ℕ → Term) (of : ℕ → Meaning) : Type 0 where
  pub pos : 0 < M
  pub words : (x : ℕ) → (of x).value < M
  pub rows : (x : ℕ) → Holds M choice of x (f x) (of x)

-- each row's value is in its range
abbrev pub Contained : (ℕ → Meaning) → (ℕ → Range) → Type 0
Contained of g = (x : ℕ) → Within (of x).value (g x)
