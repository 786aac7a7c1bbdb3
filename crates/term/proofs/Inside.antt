-- The rule names only rows of any family that is closed under references: `rule_in`.
use Prim.Native.Nat.{ℕ, zero, suc, min, max}
use mathlib.Core.Path.{◌≡◌, subst}
use mathlib.Core.Bool.{Bool, true, false}
use lib.Dec.{eqb}
use Rattle.basis.proofs.Pick.{pick_case, pick-along, min_case, max_case}
use Rattle.word.specs.Word.{plus, minus}
use Rattle.range.specs.declared.Range.{Range}
use Rattle.term.specs.declared.Relation.{Relation}
use Rattle.term.specs.declared.Relation.TheVariants.{Same, Apart, Unknown}
use Rattle.term.specs.Term.{Term, const, var, shift, sum, diff, neg, read, fresh, write}
use Rattle.term.specs.Base.{Base, Nothing, One, Sum, Difference, Negative, base_of, written, is_nothing, same_base, base, offset, open_to, plain_of, plain}
use Rattle.term.specs.Relation.{related, range_of}
use Rattle.term.specs.Walk.{Walk, found, passed, undecided, ended, step, walk_at, walk}
use Rattle.term.specs.Rule.{shift_rule, sum_rule, neg_by, neg_rule, diff_rule, read_by, read_rule, skip_by, skip_at, write_rule, rule}
use Rattle.term.specs.Seen.{first_row, is_later, by_name, seen}
use Rattle.term.specs.Result.{rule_at, simplified}
use Rattle.term.specs.WellFormed.{Names}
use Rattle.term.proofs.Bases.{open_case}

-- the rows that a base names are words of U
abbrev pub BaseIn : (Bool → ℕ → Type 0) → Base → Type 0
BaseIn U Nothing = Unit {0}
BaseIn U (One x) = U false x
BaseIn U (Sum x y) = U false x × U false y
BaseIn U (Difference x y) = U false x × U false y
BaseIn U (Negative x) = U false x

-- the row where a walk ends, and the element that it finds, are in U
abbrev pub WalkIn : (Bool → ℕ → Type 0) → Walk → Type 0
WalkIn U (found m c) = U false c
WalkIn U (passed m onward) = WalkIn U onward
WalkIn U (undecided m) = U true m
WalkIn U (ended m) = U true m

module _ (U : Bool → ℕ → Type 0) where
  written_in : (d : Base) (k : ℕ) → BaseIn U d → Names U (written d k)
  unfolding written
  written_in Nothing k n = tt
  written_in (One x) k n = n
  written_in (Sum x y) k n = n
  written_in (Difference x y) k n = n
  written_in (Negative x) k n = n

  base_of_in : (x : ℕ) (t : Term) → U false x → Names U t → BaseIn U (base_of x t)
  unfolding base_of
  base_of_in x (const k) u n = tt
  base_of_in x (var name k h) u n = u
  base_of_in x (shift a k) u n = n
  base_of_in x (sum a b k) u n = n
  base_of_in x (diff a b k) u n = n
  base_of_in x (neg a k) u n = n
  base_of_in x (read a b) u n = u
  base_of_in x fresh u n = u
  base_of_in x (write a b c) u n = u

  plain_of_in : (x : ℕ) (t : Term) → U false x → Names U t → U false (plain_of x t)
  unfolding plain_of
  plain_of_in x (const k) u n = u
  plain_of_in x (var name k h) u n = u
  plain_of_in x (shift a k) u n = pick_case (U false) (eqb k 0) (λ (e : eqb k 0 ≡ true). n) (λ (e : eqb k 0 ≡ false). u)
  plain_of_in x (sum a b k) u n = u
  plain_of_in x (diff a b k) u n = u
  plain_of_in x (neg a k) u n = u
  plain_of_in x (read a b) u n = u
  plain_of_in x fresh u n = u
  plain_of_in x (write a b c) u n = u

  step_in : (m a c : ℕ) (onward : ℕ → Walk) (known : Relation) →
      U true m → WalkIn U (onward a) → U false c → WalkIn U (step m a c onward known)
  unfolding step
  step_in m a c onward Same u w v = v
  step_in m a c onward Apart u w v = w
  step_in m a c onward Unknown u w v = u

  skip_by_in : (m a : ℕ) (known : Relation) → U true m → U true a → U true (skip_by m a known)
  unfolding skip_by
  skip_by_in m a Same u v = v
  skip_by_in m a Apart u v = u
  skip_by_in m a Unknown u v = u

module _ (U : Bool → ℕ → Type 0) (f : ℕ → Term) (closed : (s : Bool) (x : ℕ) → U s x → Names U (f x)) where
  pub base_in : (x : ℕ) → U false x → BaseIn U (base f x)
  unfolding base
  base_in x u = base_of_in U x (f x) u (closed false x u)

  pub open_in : (x : ℕ) → U false x → U false (open_to f x)
  open_in x u = open_case (λ y k. U false y) f x (λ y e. subst (BaseIn U) e (base_in x u)) u

  pub plain_in : (x : ℕ) → U false x → U false (plain f x)
  unfolding plain
  plain_in x u = plain_of_in U x (f x) u (closed false x u)

  pub shift_rule_in : (M a k : ℕ) → U false a → Names U (shift_rule M f a k)
  unfolding shift_rule
  shift_rule_in M a k u = written_in U (base f a) (plus M (offset f a) k) (base_in a u)

  sum_rule_in : (M a b k : ℕ) → U false a → U false b → Names U (sum_rule M f a b k)
  unfolding sum_rule
  sum_rule_in M a b k u v =
      pick_case (Names U) (is_nothing (base f a))
      (λ (e : is_nothing (base f a) ≡ true). shift_rule_in M b _ v)
      (λ (e : is_nothing (base f a) ≡ false).
      pick_case (Names U) (is_nothing (base f b))
      (λ (e' : is_nothing (base f b) ≡ true). shift_rule_in M a _ u)
      (λ (e' : is_nothing (base f b) ≡ false).
      written_in U (Sum (min (open_to f a) (open_to f b)) (max (open_to f a) (open_to f b))) _ (
        min_case (U false) (open_to f a) (open_to f b) (open_in a u) (open_in b v),
        max_case (U false) (open_to f a) (open_to f b) (open_in a u) (open_in b v),
      )))

  neg_by_in : (M a k p : ℕ) (d : Base) → U false a → BaseIn U d → Names U (neg_by M f a k p d)
  unfolding neg_by
  neg_by_in M a k p Nothing u n = tt
  neg_by_in M a k p (One x) u n = written_in U (Negative x) (minus M k p) n
  neg_by_in M a k p (Negative x) u n = shift_rule_in M x (minus M k p) n
  neg_by_in M a k p (Difference x y) u n = written_in U (Difference y x) (minus M k p) (n.1, n.0)
  neg_by_in M a k p (Sum x y) u n = written_in U (Negative a) k u

  neg_rule_in : (M a k : ℕ) → U false a → Names U (neg_rule M f a k)
  unfolding neg_rule
  neg_rule_in M a k u = neg_by_in M a k (offset f a) (base f a) u (base_in a u)

  diff_rule_in : (M a b k : ℕ) → U false a → U false b → Names U (diff_rule M f a b k)
  unfolding diff_rule
  diff_rule_in M a b k u v =
      pick_case (Names U) (same_base (base f a) (base f b))
      (λ (e : same_base (base f a) (base f b) ≡ true). tt)
      (λ (e : same_base (base f a) (base f b) ≡ false).
      pick_case (Names U) (is_nothing (base f b))
      (λ (e' : is_nothing (base f b) ≡ true). shift_rule_in M a _ u)
      (λ (e' : is_nothing (base f b) ≡ false).
      pick_case (Names U) (is_nothing (base f a))
      (λ (e'' : is_nothing (base f a) ≡ true). neg_rule_in M b _ v)
      (λ (e'' : is_nothing (base f a) ≡ false). written_in U (Difference (open_to f a) (open_to f b)) _ (open_in a u, open_in b v))))

  read_by_in : (M i : ℕ) (w : Walk) → U false i → WalkIn U w → Names U (read_by M f i w)
  unfolding read_by
  read_by_in M i (found m c) u n = shift_rule_in M c 0 n
  read_by_in M i (passed m onward) u n = read_by_in M i onward u n
  read_by_in M i (undecided m) u n = (n, plain_in i u)
  read_by_in M i (ended m) u n = (n, plain_in i u)

  walk_at_in : (g : ℕ → Range) (i m : ℕ) (onward : ℕ → Walk) (t : Term) →
      U true m → Names U t → ((a : ℕ) → U true a → WalkIn U (onward a)) → WalkIn U (walk_at f g i m onward t)
  unfolding walk_at
  walk_at_in g i m onward (const k) u n go = u
  walk_at_in g i m onward (var name k h) u n go = u
  walk_at_in g i m onward (shift a k) u n go = u
  walk_at_in g i m onward (sum a b k) u n go = u
  walk_at_in g i m onward (diff a b k) u n go = u
  walk_at_in g i m onward (neg a k) u n go = u
  walk_at_in g i m onward (read a b) u n go = u
  walk_at_in g i m onward fresh u n go = u
  walk_at_in g i m onward (write a b c) u n go = step_in U m a c onward (related f g b i) u (go a n.0) n.2

  pub walk_in : (g : ℕ → Range) (i left m : ℕ) → U true m → WalkIn U (walk f g i left m)
  unfolding walk
  walk_in g i zero m u = u
  walk_in g i (suc left) m u = walk_at_in g i m (walk f g i left) (f m) u (closed true m u) (λ a v. walk_in g i left a v)

  skip_at_in : (g : ℕ → Range) (i m : ℕ) (t : Term) → U true m → Names U t → U true (skip_at f g i m t)
  unfolding skip_at
  skip_at_in g i m (const k) u n = u
  skip_at_in g i m (var name k h) u n = u
  skip_at_in g i m (shift a k) u n = u
  skip_at_in g i m (sum a b k) u n = u
  skip_at_in g i m (diff a b k) u n = u
  skip_at_in g i m (neg a k) u n = u
  skip_at_in g i m (read a b) u n = u
  skip_at_in g i m fresh u n = u
  skip_at_in g i m (write a b c) u n = skip_by_in U m a (related f g b i) u n.0

  pub rule_in : (M limit : ℕ) (g : ℕ → Range) (t : Term) → Names U t → Names U (rule M limit f g t)
  unfolding rule read_rule write_rule
  rule_in M limit g (const k) n = tt
  rule_in M limit g (var name k h) n = tt
  rule_in M limit g (shift a k) n = shift_rule_in M a k n
  rule_in M limit g (sum a b k) n = sum_rule_in M a b k n.0 n.1
  rule_in M limit g (diff a b k) n = diff_rule_in M a b k n.0 n.1
  rule_in M limit g (neg a k) n = neg_rule_in M a k n
  rule_in M limit g (read a b) n = read_by_in M b (walk f g b limit a) n.1 (walk_in g b limit a n.0)
  rule_in M limit g fresh n = tt
  rule_in M limit g (write a b c) n = (skip_at_in g b a (f a) n.0 (closed true a n.0), plain_in b n.1, plain_in c n.2)

  pub rule_at_in : (M limit : ℕ) (g : ℕ → Range) (t : ℕ → Term) (x : ℕ) → Names U (seen t x) → Names U (rule_at M limit t f g x)
  unfolding rule_at seen by_name
  rule_at_in M limit g t x = pick-along (Names U) (is_later t x) (shift (first_row t x) 0) (rule_in M limit g (t x))

  pub simplified_in : (M limit : ℕ) (t : ℕ → Term) (x : ℕ) → Names U (seen t x) → Names U (simplified M limit t f x)
  unfolding simplified
  simplified_in M limit = rule_at_in M limit (range_of M f)
