-- Ranges of result rows, and what is known of two rows: document 01, "Ranges".
use Rattle.std.specs.Prelude.{ℕ, zero, suc, cond, ◌&&◌, ◌||◌, eqb}
use Rattle.range.specs.declared.Range.{Range}
use Rattle.range.specs.Range.{span, point, full, negation, disjoint}
use Rattle.range.specs.Range as range
use Rattle.term.specs.declared.Relation.{Relation}
use Rattle.term.specs.declared.Relation.TheVariants.{Same, Apart, Unknown}
use Rattle.term.specs.Term.{Term, const, var, shift, sum, diff, neg, read, fresh, write}
use Rattle.term.specs.Base.{base, offset, same_base}

-- the range of a result row, from those of the rows that it names. (An array row has none that is asked for.)
unfoldable pub range_by : ℕ → (ℕ → Range) → Term → Range
range_by M g (const k) = point k
range_by M g (var name k h) = span k h
range_by M g (shift a k) = range.sum M (g a) (point k)
range_by M g (sum a b k) = range.sum M (range.sum M (g a) (g b)) (point k)
range_by M g (diff a b k) = range.sum M (range.sum M (g a) (negation M (g b))) (point k)
range_by M g (neg a k) = range.sum M (point k) (negation M (g a))
range_by M g (read a b) = full M
range_by M g fresh = full M
range_by M g (write a b c) = full M

-- each row that the range of a term is made from is in U
abbrev pub Rests : (ℕ → Type 0) → Term → Type 0
Rests U (const k) = Unit {0}
Rests U (var name k h) = Unit {0}
Rests U (shift a k) = U a
Rests U (sum a b k) = U a × U b
Rests U (diff a b k) = U a × U b
Rests U (neg a k) = U a
Rests U (read a b) = Unit {0}
Rests U fresh = Unit {0}
Rests U (write a b c) = Unit {0}

-- the same, followed `deep` references down: rows beyond are taken to range over every word
unfoldable pub range_down : ℕ → (ℕ → Term) → ℕ → ℕ → Range
range_down M f zero x = full M
range_down M f (suc deep) x = range_by M (range_down M f deep) (f x)

-- the range of result row x: a row names rows below it, so x + 1 references down is all the way
unfoldable pub range_of : ℕ → (ℕ → Term) → ℕ → Range
range_of M f x = range_down M f (suc x) x

-- what is known of word rows x and y, with g the ranges of the rows
unfoldable pub related : (ℕ → Term) → (ℕ → Range) → ℕ → ℕ → Relation
related f g x y =
    cond (same_base (base f x) (base f y) && eqb (offset f x) (offset f y))
    Same
    (cond (same_base (base f x) (base f y) || disjoint (g x) (g y)) Apart Unknown)

-- document 01's number for each: the answer of a comparison
unfoldable pub relation_number : Relation → ℕ
relation_number Unknown = 0
relation_number Same = 1
relation_number Apart = 2
