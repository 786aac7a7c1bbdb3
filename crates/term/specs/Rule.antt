-- The rules: what the result row of a term is, over the result rows f below it and their ranges g. M is 2 ^ w; a read compares at most
-- `limit` stores. They hold for any rows f at all, also where f is no table's own result.
use Rattle.std.specs.Prelude.{ℕ, min, max, cond}
use Rattle.word.specs.Word.{plus, minus}
use Rattle.range.specs.declared.Range.{Range}
use Rattle.term.specs.Term.{Term, const, var, shift, sum, diff, neg, read, fresh, write}
use Rattle.term.specs.Base.{Base, Nothing, One, Sum, Difference, Negative, written, is_nothing, same_base, base, offset, open_to, open_by, plain}
use Rattle.term.specs.declared.Relation.{Relation}
use Rattle.term.specs.declared.Relation.TheVariants.{Same, Apart, Unknown}
use Rattle.term.specs.Relation.{related}
use Rattle.term.specs.Walk.{Walk, found, passed, undecided, ended, walk}

-- SHIFT a k: a's base, a's offset + k
unfoldable pub shift_rule : ℕ → (ℕ → Term) → ℕ → ℕ → Term
shift_rule M f a k = written (base f a) (plus M (offset f a) k)

-- SUM a b k
unfoldable pub sum_rule : ℕ → (ℕ → Term) → ℕ → ℕ → ℕ → Term
sum_rule M f a b k =
    cond (is_nothing (base f a)) (shift_rule M f b (plus M (offset f a) k))
    (cond (is_nothing (base f b)) (shift_rule M f a (plus M (offset f b) k))
    (written
    (Sum (min (open_to f a) (open_to f b)) (max (open_to f a) (open_to f b)))
    (plus M (plus M (open_by f a) (open_by f b)) k)))

-- NEG a k, where row a has the given base and offset p
unfoldable pub neg_by : ℕ → (ℕ → Term) → ℕ → ℕ → ℕ → Base → Term
neg_by M f a k p Nothing = const (minus M k p)
neg_by M f a k p (One x) = written (Negative x) (minus M k p)
neg_by M f a k p (Negative x) = shift_rule M f x (minus M k p)
neg_by M f a k p (Difference x y) = written (Difference y x) (minus M k p)
neg_by M f a k p (Sum x y) = written (Negative a) k

unfoldable pub neg_rule : ℕ → (ℕ → Term) → ℕ → ℕ → Term
neg_rule M f a k = neg_by M f a k (offset f a) (base f a)

-- DIFF a b k
unfoldable pub diff_rule : ℕ → (ℕ → Term) → ℕ → ℕ → ℕ → Term
diff_rule M f a b k =
    cond (same_base (base f a) (base f b)) (const (plus M (minus M (offset f a) (offset f b)) k))
    (cond (is_nothing (base f b)) (shift_rule M f a (minus M k (offset f b)))
    (cond (is_nothing (base f a)) (neg_rule M f b (plus M k (offset f a)))
    (written (Difference (open_to f a) (open_to f b)) (plus M (minus M (open_by f a) (open_by f b)) k))))

-- READ at index row i, by its walk: as SHIFT c 0 where the element c was found, else a READ of the array reached at i's plain name
unfoldable pub read_by : ℕ → (ℕ → Term) → ℕ → Walk → Term
read_by M f i (found m c) = shift_rule M f c 0
read_by M f i (passed m onward) = read_by M f i onward
read_by M f i (undecided m) = read m (plain f i)
read_by M f i (ended m) = read m (plain f i)

unfoldable pub read_rule : ℕ → ℕ → (ℕ → Term) → (ℕ → Range) → ℕ → ℕ → Term
read_rule M limit f g m i = read_by M f i (walk f g i limit m)

-- a store at the same index is skipped, once: the array under it, else the array m itself
unfoldable pub skip_by : ℕ → ℕ → Relation → ℕ
skip_by m a Same = a
skip_by m a Apart = m
skip_by m a Unknown = m

-- the array that a WRITE at index row i stands on in place of row m, which is the given term
unfoldable pub skip_at : (ℕ → Term) → (ℕ → Range) → ℕ → ℕ → Term → ℕ
skip_at f g i m (const k) = m
skip_at f g i m (var name k h) = m
skip_at f g i m (shift a k) = m
skip_at f g i m (sum a b k) = m
skip_at f g i m (diff a b k) = m
skip_at f g i m (neg a k) = m
skip_at f g i m (read a b) = m
skip_at f g i m fresh = m
skip_at f g i m (write a b c) = skip_by m a (related f g b i)

-- WRITE m i e
unfoldable pub write_rule : (ℕ → Term) → (ℕ → Range) → ℕ → ℕ → ℕ → Term
write_rule f g m i e = write (skip_at f g i m (f m)) (plain f i) (plain f e)

-- the result row of a term
unfoldable pub rule : ℕ → ℕ → (ℕ → Term) → (ℕ → Range) → Term → Term
rule M limit f g (const k) = const k
rule M limit f g (var name k h) = var name k h
rule M limit f g (shift a k) = shift_rule M f a k
rule M limit f g (sum a b k) = sum_rule M f a b k
rule M limit f g (diff a b k) = diff_rule M f a b k
rule M limit f g (neg a k) = neg_rule M f a k
rule M limit f g (read m i) = read_rule M limit f g m i
rule M limit f g fresh = fresh
rule M limit f g (write m i e) = write_rule f g m i e
