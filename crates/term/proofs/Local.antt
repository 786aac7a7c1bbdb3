-- The rule looks only at rows of any family that is closed under references, and so does a row's range: `rule_local`, `range_local`.
use Prim.Native.Nat.{ℕ, zero, suc}
use mathlib.Core.Path.{◌≡◌, refl, ap, ap₂, ◌∙◌}
use mathlib.Core.Bool.{Bool, true, false}
use Rattle.basis.proofs.Pick.{pick_under}
use Rattle.word.specs.Word.{plus, minus}
use Rattle.range.specs.declared.Range.{Range}
use Rattle.range.specs.Range.{point, negation}
use Rattle.range.specs.Range as range
use Rattle.term.specs.declared.Relation.{Relation}
use Rattle.term.specs.declared.Relation.TheVariants.{Same, Apart, Unknown}
use Rattle.term.specs.Term.{Term, const, var, shift, sum, diff, neg, read, fresh, write}
use Rattle.term.specs.Base.{Base, Nothing, One, Sum, Difference, Negative, base_of, offset_of, written, base, offset, open_row, open_offset, open_to, open_by, plain_of, plain}
use Rattle.term.specs.Relation.{Rests, range_by, range_down, range_of, related}
use Rattle.term.specs.Walk.{Walk, found, passed, undecided, ended, step, walk_at, walk, compared}
use Rattle.term.specs.Rule.{shift_rule, sum_rule, neg_by, neg_rule, diff_rule, read_by, read_rule, skip_by, skip_at, write_rule, rule}
use Rattle.term.specs.Seen.{first_row, is_later, by_name, seen}
use Rattle.term.specs.Result.{rule_at, simplified}
use Rattle.term.specs.Compared.{compared_by}
use Rattle.term.specs.WellFormed.{Names}
use Rattle.term.proofs.Names.{names_widen, names_rest}
use Rattle.term.proofs.Inside.{BaseIn, WalkIn, base_in, walk_in}

-- ranges that agree on the rows that the range of a term is made from give it the same range
pub range_by_rests : (M : ℕ) (g g' : ℕ → Range) (t : Term) → Rests (λ y. g y ≡ g' y) t → range_by M g t ≡ range_by M g' t
unfolding range_by
range_by_rests M g g' (const k) n = refl
range_by_rests M g g' (var name k h) n = refl
range_by_rests M g g' (shift a k) n = ap (λ (r : Range). range.sum M r (point k)) n
range_by_rests M g g' (sum a b k) n = ap₂ (λ (r q : Range). range.sum M (range.sum M r q) (point k)) n.0 n.1
range_by_rests M g g' (diff a b k) n = ap₂ (λ (r q : Range). range.sum M (range.sum M r (negation M q)) (point k)) n.0 n.1
range_by_rests M g g' (neg a k) n = ap (λ (r : Range). range.sum M (point k) (negation M r)) n
range_by_rests M g g' (read a b) n = refl
range_by_rests M g g' fresh n = refl
range_by_rests M g g' (write a b c) n = refl

-- so do those that agree on all the words that it names
pub range_by_local : (M : ℕ) (g g' : ℕ → Range) (t : Term) → Names (λ s y. s ≡ false → g y ≡ g' y) t → range_by M g t ≡ range_by M g' t
range_by_local M g g' t n = range_by_rests M g g' t (names_rest (λ y. g y ≡ g' y) t n)

step_local : (m a c : ℕ) (on on' : ℕ → Walk) (known : Relation) → on a ≡ on' a → step m a c on known ≡ step m a c on' known
unfolding step
step_local m a c on on' Same e = refl
step_local m a c on on' Apart e = ap (passed m) e
step_local m a c on on' Unknown e = refl

-- f and f' agree on U, which is closed under the references of f
module _
    (U : Bool → ℕ → Type 0)
    (f f' : ℕ → Term)
    (closed : (s : Bool) (x : ℕ) → U s x → Names U (f x))
    (agree : (s : Bool) (x : ℕ) → U s x → f x ≡ f' x)
  where
    base_local : (x : ℕ) → U false x → base f x ≡ base f' x
    unfolding base
    base_local x u = ap (base_of x) (agree false x u)

    offset_local : (x : ℕ) → U false x → offset f x ≡ offset f' x
    unfolding offset
    offset_local x u = ap offset_of (agree false x u)

    open_to_local : (x : ℕ) → U false x → open_to f x ≡ open_to f' x
    unfolding open_to
    open_to_local x u = ap (open_row x) (base_local x u)

    open_by_local : (x : ℕ) → U false x → open_by f x ≡ open_by f' x
    unfolding open_by
    open_by_local x u = ap₂ open_offset (base_local x u) (offset_local x u)

    plain_local : (x : ℕ) → U false x → plain f x ≡ plain f' x
    unfolding plain
    plain_local x u = ap (plain_of x) (agree false x u)

    pub shift_rule_local : (M a k : ℕ) → U false a → shift_rule M f a k ≡ shift_rule M f' a k
    unfolding shift_rule
    shift_rule_local M a k u = ap₂ (λ (d : Base) (p : ℕ). written d (plus M p k)) (base_local a u) (offset_local a u)

    sum_rule_local : (M a b k : ℕ) → U false a → U false b → sum_rule M f a b k ≡ sum_rule M f' a b k
    unfolding sum_rule
    sum_rule_local M a b k u v =
        cc (
          base_local a u,
          base_local b v,
          offset_local a u,
          offset_local b v,
          open_to_local a u,
          open_to_local b v,
          open_by_local a u,
          open_by_local b v,
          shift_rule_local M b (plus M (offset f a) k) v,
          shift_rule_local M a (plus M (offset f b) k) u,
        )

    neg_by_local : (M a k p : ℕ) (d : Base) → BaseIn U d → neg_by M f a k p d ≡ neg_by M f' a k p d
    unfolding neg_by
    neg_by_local M a k p Nothing n = refl
    neg_by_local M a k p (One x) n = refl
    neg_by_local M a k p (Negative x) n = shift_rule_local M x (minus M k p) n
    neg_by_local M a k p (Difference x y) n = refl
    neg_by_local M a k p (Sum x y) n = refl

    neg_rule_local : (M a k : ℕ) → U false a → neg_rule M f a k ≡ neg_rule M f' a k
    unfolding neg_rule
    neg_rule_local M a k u =
        neg_by_local M a k (offset f a) (base f a) (base_in U f closed a u) ∙ ap₂ (neg_by M f' a k) (offset_local a u) (base_local a u)

    diff_rule_local : (M a b k : ℕ) → U false a → U false b → diff_rule M f a b k ≡ diff_rule M f' a b k
    unfolding diff_rule
    diff_rule_local M a b k u v =
        cc (
          base_local a u,
          base_local b v,
          offset_local a u,
          offset_local b v,
          open_to_local a u,
          open_to_local b v,
          open_by_local a u,
          open_by_local b v,
          shift_rule_local M a (minus M k (offset f b)) u,
          neg_rule_local M b (plus M k (offset f a)) v,
        )

    read_by_local : (M i : ℕ) (w : Walk) → U false i → WalkIn U w → read_by M f i w ≡ read_by M f' i w
    unfolding read_by
    read_by_local M i (found m c) u n = shift_rule_local M c 0 n
    read_by_local M i (passed m onward) u n = read_by_local M i onward u n
    read_by_local M i (undecided m) u n = ap (read m) (plain_local i u)
    read_by_local M i (ended m) u n = ap (read m) (plain_local i u)

    range_down_local : (M deep : ℕ) (s : Bool) (x : ℕ) → U s x → range_down M f deep x ≡ range_down M f' deep x
    unfolding range_down
    range_down_local M zero s x u = refl
    range_down_local M (suc deep) s x u =
        range_by_local M (range_down M f deep) (range_down M f' deep) (f x)
        (names_widen {U = U} {W = λ s' y. s' ≡ false → range_down M f deep y ≡ range_down M f' deep y} (f x) (λ s' y v word. range_down_local M deep s' y v) (closed s x u)) ∙
        ap (range_by M (range_down M f' deep)) (agree s x u)

    -- the range of a row of U
    pub range_local : (M : ℕ) (s : Bool) (x : ℕ) → U s x → range_of M f x ≡ range_of M f' x
    unfolding range_of
    range_local M s x u = range_down_local M (suc x) s x u

    -- with ranges g and g' that agree on the words of U
    module _ (g g' : ℕ → Range) (ranges : (x : ℕ) → U false x → g x ≡ g' x) where
      pub related_local : (x y : ℕ) → U false x → U false y → related f g x y ≡ related f' g' x y
      unfolding related
      related_local x y u v = cc (base_local x u, base_local y v, offset_local x u, offset_local y v, ranges x u, ranges y v)

      walk_at_local : (i m : ℕ) (on on' : ℕ → Walk) (t : Term) →
          U false i → Names U t → ((a : ℕ) → U true a → on a ≡ on' a) → walk_at f g i m on t ≡ walk_at f' g' i m on' t
      unfolding walk_at step
      walk_at_local i m on on' (const k) u n go = refl
      walk_at_local i m on on' (var name k h) u n go = refl
      walk_at_local i m on on' (shift a k) u n go = refl
      walk_at_local i m on on' (sum a b k) u n go = refl
      walk_at_local i m on on' (diff a b k) u n go = refl
      walk_at_local i m on on' (neg a k) u n go = refl
      walk_at_local i m on on' (read a b) u n go = refl
      walk_at_local i m on on' fresh u n go = refl
      walk_at_local i m on on' (write a b c) u n go =
          step_local m a c on on' (related f g b i) (go a n.0) ∙ ap (step m a c on') (related_local b i n.1 u)

      walk_local : (i left m : ℕ) → U false i → U true m → walk f g i left m ≡ walk f' g' i left m
      unfolding walk
      walk_local i zero m u v = refl
      walk_local i (suc left) m u v =
          walk_at_local i m (walk f g i left) (walk f' g' i left) (f m) u (closed true m v) (λ a w. walk_local i left a u w) ∙
          ap (walk_at f' g' i m (walk f' g' i left)) (agree true m v)

      skip_at_local : (i m : ℕ) (t : Term) → U false i → Names U t → skip_at f g i m t ≡ skip_at f' g' i m t
      unfolding skip_at
      skip_at_local i m (const k) u n = refl
      skip_at_local i m (var name k h) u n = refl
      skip_at_local i m (shift a k) u n = refl
      skip_at_local i m (sum a b k) u n = refl
      skip_at_local i m (diff a b k) u n = refl
      skip_at_local i m (neg a k) u n = refl
      skip_at_local i m (read a b) u n = refl
      skip_at_local i m fresh u n = refl
      skip_at_local i m (write a b c) u n = ap (skip_by m a) (related_local b i n.1 u)

      read_rule_local : (M limit m i : ℕ) → U true m → U false i → read_rule M limit f g m i ≡ read_rule M limit f' g' m i
      unfolding read_rule
      read_rule_local M limit m i u v =
          read_by_local M i (walk f g i limit m) v (walk_in U f closed g i limit m u) ∙ ap (read_by M f' i) (walk_local i limit m v u)

      write_rule_local : (m i e : ℕ) → U true m → U false i → U false e → write_rule f g m i e ≡ write_rule f' g' m i e
      unfolding write_rule
      write_rule_local m i e u v w =
          let skipped : skip_at f g i m (f m) ≡ skip_at f' g' i m (f' m) = skip_at_local i m (f m) v (closed true m u) ∙ ap (skip_at f' g' i m) (agree true m u) in
          cc (skipped, plain_local i v, plain_local e w)

      pub rule_local : (M limit : ℕ) (t : Term) → Names U t → rule M limit f g t ≡ rule M limit f' g' t
      unfolding rule
      rule_local M limit (const k) n = refl
      rule_local M limit (var name k h) n = refl
      rule_local M limit (shift a k) n = shift_rule_local M a k n
      rule_local M limit (sum a b k) n = sum_rule_local M a b k n.0 n.1
      rule_local M limit (diff a b k) n = diff_rule_local M a b k n.0 n.1
      rule_local M limit (neg a k) n = neg_rule_local M a k n
      rule_local M limit (read a b) n = read_rule_local M limit a b n.0 n.1
      rule_local M limit fresh n = refl
      rule_local M limit (write a b c) n = write_rule_local a b c n.0 n.1 n.2

      -- the stores that a READ compares
      pub compared_local : (limit : ℕ) (t : Term) → Names U t → compared_by limit f g t ≡ compared_by limit f' g' t
      unfolding compared_by
      compared_local limit (const k) n = refl
      compared_local limit (var name k h) n = refl
      compared_local limit (shift a k) n = refl
      compared_local limit (sum a b k) n = refl
      compared_local limit (diff a b k) n = refl
      compared_local limit (neg a k) n = refl
      compared_local limit (read m i) n = ap compared (walk_local i limit m n.1 n.0)
      compared_local limit fresh n = refl
      compared_local limit (write a b c) n = refl

      pub rule_at_local : (M limit : ℕ) (t : ℕ → Term) (x : ℕ) → Names U (seen t x) → rule_at M limit t f g x ≡ rule_at M limit t f' g' x
      unfolding rule_at seen by_name
      rule_at_local M limit t x = pick_under (Names U) (is_later t x) (shift (first_row t x) 0) (rule_local M limit (t x))

    pub simplified_local : (M limit : ℕ) (t : ℕ → Term) (x : ℕ) → Names U (seen t x) → simplified M limit t f x ≡ simplified M limit t f' x
    unfolding simplified
    simplified_local = λ M. rule_at_local (range_of M f) (range_of M f') (λ x u. range_local M false x u) M
