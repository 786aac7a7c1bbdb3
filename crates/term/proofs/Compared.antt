-- The stores that reads compare: each read at most `limit`, and over rows that agree the same.
use Prim.Native.Nat.{ℕ, ◌*◌, ◌≤◌, ◌<◌}
use native.Mathlib.Nat.{lt_trans}
use native.Mathlib.Omega.{arith}
use mathlib.Core.Path.{◌≡◌, refl, ap, ◌∙◌}
use mathlib.Core.Bool.{Bool, true, false, cond, ◌&&◌}
use mathlib.Core.List.{List}
use Rattle.basis.specs.Count.{count_where}
use Rattle.basis.proofs.Counts.{total_same, total_most}
use Rattle.range.specs.declared.Range.{Range}
use Rattle.term.specs.declared.Met.{Met}
use Rattle.term.specs.Term.{Term, const, var, shift, sum, diff, neg, read, fresh, write, is_read}
use Rattle.term.specs.Relation.{range_of}
use Rattle.term.specs.Walk.{Walk, walk, compared}
use Rattle.term.specs.Seen.{is_later}
use Rattle.term.specs.Compared.{compared_by, compared_rows}
use Rattle.term.specs.WellFormed.{Names}
use Rattle.term.proofs.Names.{NamesBelow, names_widen}
use Rattle.term.proofs.Seen.{stated_case, later_states}
use Rattle.term.proofs.Local.{range_local, compared_local}
use Rattle.term.proofs.Follows.{Follows, finds, passes, stops, ends, spent, walk_follows}

follows_most : {f : ℕ → Term} {g : ℕ → Range} {i left m : ℕ} {steps : List Met} {w : Walk} → Follows f g i left m steps w → compared w ≤ left
unfolding compared
follows_most (finds e k) = omega arith
follows_most (passes e k apart on) = omega (arith, follows_most on)
follows_most (stops e k) = omega arith
follows_most (ends n) = omega arith
follows_most spent = omega arith

-- a walk compares at most as many stores as it may
pub walk_most : (f : ℕ → Term) (g : ℕ → Range) (i left m : ℕ) → compared (walk f g i left m) ≤ left
walk_most f g i left m = follows_most (walk_follows f g i left m)

-- so does a READ, and nothing else compares any
pub compared_most : (limit : ℕ) (f : ℕ → Term) (g : ℕ → Range) (t : Term) → compared_by limit f g t ≤ limit * cond (is_read t) 1 0
unfolding compared_by is_read
compared_most limit f g (const k) = omega arith
compared_most limit f g (var name k h) = omega arith
compared_most limit f g (shift a k) = omega arith
compared_most limit f g (sum a b k) = omega arith
compared_most limit f g (diff a b k) = omega arith
compared_most limit f g (neg a k) = omega arith
compared_most limit f g (read m i) = omega (arith, walk_most f g i limit m)
compared_most limit f g fresh = omega arith
compared_most limit f g (write a b c) = omega arith

-- to say it of one that is no READ
pub none_compared : (limit : ℕ) (f : ℕ → Term) (g : ℕ → Range) (t : Term) → is_read t ≡ false → 0 ≡ compared_by limit f g t
none_compared limit f g t e = let most : compared_by limit f g t ≤ limit * 0 = rw e at (compared_most limit f g t) in omega arith

-- and of a later VAR of a name
pub later_compared : (limit : ℕ) (f : ℕ → Term) (g : ℕ → Range) (t : ℕ → Term) (x : ℕ) → is_later t x ≡ true → 0 ≡ compared_by limit f g (t x)
unfolding compared_by
later_compared limit f g t x later = stated_case (λ u. 0 ≡ compared_by limit f g u) (λ name k h. refl) (t x) (later_states t x later)

touched_most : (b : Bool) (limit : ℕ) (f : ℕ → Term) (g : ℕ → Range) (t : Term) → cond b (compared_by limit f g t) 0 ≤ limit * cond (b && is_read t) 1 0
touched_most true limit f g t = compared_most limit f g t
touched_most false limit f g t = omega arith

-- all reads that are worked out compare at most `limit` times their number
pub compared_rows_most :
    (M limit : ℕ) (touched : ℕ → Bool) (t f : ℕ → Term) (n : ℕ) →
    compared_rows M limit touched t f n ≤ limit * count_where (λ x. touched x && is_read (t x)) n
unfolding compared_rows
compared_rows_most M limit touched t f n =
    total_most limit _ (λ x. touched x && is_read (t x)) n (λ x. touched_most (touched x) limit f (range_of M f) (t x))

-- the first n rows of f and f' agree
module _ (t f f' : ℕ → Term) (low : NamesBelow t) (low-result : NamesBelow f) (n : ℕ) (agree : (x : ℕ) → x < n → f x ≡ f' x) where
  closed : (s : Bool) (x : ℕ) → x < n → Names (λ s' y. y < n) (f x)
  closed s x l = names_widen (f x) (λ s' y (h : y < x). lt_trans h l) (low-result x)

  pub compared_rows_same :
      (M limit : ℕ) (touched touched' : ℕ → Bool) → ((x : ℕ) → x < n → touched x ≡ touched' x) →
      compared_rows M limit touched t f n ≡ compared_rows M limit touched' t f' n
  unfolding compared_rows
  compared_rows_same M limit touched touched' same =
      total_same _ _ n
      (λ x l.
      ap (λ (b : Bool). cond b (compared_by limit f (range_of M f) (t x)) 0) (same x l) ∙
      ap (λ (k : ℕ). cond (touched' x) k 0)
      (compared_local (λ s y. y < n) f f' closed (λ s y h. agree y h) (range_of M f) (range_of M f')
      (λ y h. range_local (λ s z. z < n) f f' closed (λ s z k. agree z k) M false y h) limit (t x)
      (names_widen (t x) (λ s y (h : y < x). lt_trans h l) (low x))))
