-- What the rows of an accepted table guarantee, over lookups.
use Rattle.std.specs.Prelude.{ℕ, ◌≤◌, ◌<◌, ◌≡◌, Bool, true, false}
use Rattle.term.specs.Term.{Term, const, var, shift, sum, diff, neg, read, fresh, write, is_array}

-- the numbers of a term are words below M, and bounds are in order
abbrev pub Fits : ℕ → Term → Type 0
Fits M (const k) = k < M
Fits M (var name k h) = (k ≤ h) × (h < M)
Fits M (shift a k) = k < M
Fits M (sum a b k) = k < M
Fits M (diff a b k) = k < M
Fits M (neg a k) = k < M
Fits M (read a b) = Unit {0}
Fits M fresh = Unit {0}
Fits M (write a b c) = Unit {0}

-- each row that a term names is in U: as an array (true) or as a word (false)
abbrev pub Names : (Bool → ℕ → Type 0) → Term → Type 0
Names U (const k) = Unit {0}
Names U (var name k h) = Unit {0}
Names U (shift a k) = U false a
Names U (sum a b k) = U false a × U false b
Names U (diff a b k) = U false a × U false b
Names U (neg a k) = U false a
Names U (read a b) = U true a × U false b
Names U fresh = Unit {0}
Names U (write a b c) = U true a × U false b × U false c

-- row y stands below row x of f, and is an array or a word as it is used
pub record Below (f : ℕ → Term) (x : ℕ) (array : Bool) (y : ℕ) : Type 0 where
  pub below : y < x
  pub sort : is_array (f y) ≡ array

pub record WellFormed (M : ℕ) (f : ℕ → Term) : Type 0 where
  pub fits : (x : ℕ) → Fits M (f x)
  pub names : (x : ℕ) → Names (Below f x) (f x)
