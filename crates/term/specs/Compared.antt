-- The stores that reads compare: document 02, A8.
use Rattle.std.specs.Prelude.{ℕ, Bool, cond}
use Rattle.basis.specs.Count.{total}
use Rattle.range.specs.declared.Range.{Range}
use Rattle.term.specs.Term.{Term, const, var, shift, sum, diff, neg, read, fresh, write}
use Rattle.term.specs.Relation.{range_of}
use Rattle.term.specs.Walk.{walk, compared}

-- for a term, over the result rows f and their ranges g: a READ has a walk, of at most `limit` stores, and nothing else has one
unfoldable pub compared_by : ℕ → (ℕ → Term) → (ℕ → Range) → Term → ℕ
compared_by limit f g (const k) = 0
compared_by limit f g (var name k h) = 0
compared_by limit f g (shift a k) = 0
compared_by limit f g (sum a b k) = 0
compared_by limit f g (diff a b k) = 0
compared_by limit f g (neg a k) = 0
compared_by limit f g (read m i) = compared (walk f g i limit m)
compared_by limit f g fresh = 0
compared_by limit f g (write a b c) = 0

-- in all the reads that are worked out: of the touched ones of the first n rows of the table t, whose result rows are f
unfoldable pub compared_rows : ℕ → ℕ → (ℕ → Bool) → (ℕ → Term) → (ℕ → Term) → ℕ → ℕ
compared_rows M limit touched t f n = total (λ x. cond (touched x) (compared_by limit f (range_of M f) (t x)) 0) n
