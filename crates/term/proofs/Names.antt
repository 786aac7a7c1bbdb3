-- The rows that a term names.
use Prim.Native.Nat.{ℕ, ◌<◌}
use mathlib.Core.Path.{◌≡◌, refl, ap₂}
use mathlib.Core.Bool.{Bool, true, false, ◌||◌}
use Rattle.basis.proofs.Pick.{or_left, or_right}
use Rattle.term.specs.Term.{Term, const, var, shift, sum, diff, neg, read, fresh, write, any_named}
use Rattle.term.specs.WellFormed.{Names}
use Rattle.term.specs.Relation.{Rests}

-- every row names rows below it
abbrev pub NamesBelow : (ℕ → Term) → Type 0
NamesBelow f = (x : ℕ) → Names (λ s y. y < x) (f x)

-- a larger family
pub names_widen : {U W : Bool → ℕ → Type 0} (t : Term) → ((s : Bool) (y : ℕ) → U s y → W s y) → Names U t → Names W t
names_widen (const k) wider n = tt
names_widen (var name k h) wider n = tt
names_widen (shift a k) wider n = wider false a n
names_widen (sum a b k) wider n = (wider false a n.0, wider false b n.1)
names_widen (diff a b k) wider n = (wider false a n.0, wider false b n.1)
names_widen (neg a k) wider n = wider false a n
names_widen (read a b) wider n = (wider true a n.0, wider false b n.1)
names_widen fresh wider n = tt
names_widen (write a b c) wider n = (wider true a n.0, wider false b n.1, wider false c n.2)

-- two families at once
pub names_both : (U W : Bool → ℕ → Type 0) (t : Term) → Names U t → Names W t → Names (λ s y. U s y × W s y) t
names_both U W (const k) n m = tt
names_both U W (var name k h) n m = tt
names_both U W (shift a k) n m = (n, m)
names_both U W (sum a b k) n m = ((n.0, m.0), (n.1, m.1))
names_both U W (diff a b k) n m = ((n.0, m.0), (n.1, m.1))
names_both U W (neg a k) n m = (n, m)
names_both U W (read a b) n m = ((n.0, m.0), (n.1, m.1))
names_both U W fresh n m = tt
names_both U W (write a b c) n m = ((n.0, m.0), (n.1, m.1), (n.2, m.2))

-- the range of a term is made from words that it names
pub names_rest : (U : ℕ → Type 0) (t : Term) → Names (λ s y. s ≡ false → U y) t → Rests U t
names_rest U (const k) n = tt
names_rest U (var name k h) n = tt
names_rest U (shift a k) n = n refl
names_rest U (sum a b k) n = (n.0 refl, n.1 refl)
names_rest U (diff a b k) n = (n.0 refl, n.1 refl)
names_rest U (neg a k) n = n refl
names_rest U (read a b) n = tt
names_rest U fresh n = tt
names_rest U (write a b c) n = tt

-- a larger family of such words
pub rests_widen : {U W : ℕ → Type 0} (t : Term) → ((y : ℕ) → U y → W y) → Rests U t → Rests W t
rests_widen (const k) wider n = tt
rests_widen (var name k h) wider n = tt
rests_widen (shift a k) wider n = wider a n
rests_widen (sum a b k) wider n = (wider a n.0, wider b n.1)
rests_widen (diff a b k) wider n = (wider a n.0, wider b n.1)
rests_widen (neg a k) wider n = wider a n
rests_widen (read a b) wider n = tt
rests_widen fresh wider n = tt
rests_widen (write a b c) wider n = tt

pub rests_both : (U W : ℕ → Type 0) (t : Term) → Rests U t → Rests W t → Rests (λ y. U y × W y) t
rests_both U W (const k) n m = tt
rests_both U W (var name k h) n m = tt
rests_both U W (shift a k) n m = (n, m)
rests_both U W (sum a b k) n m = ((n.0, m.0), (n.1, m.1))
rests_both U W (diff a b k) n m = ((n.0, m.0), (n.1, m.1))
rests_both U W (neg a k) n m = (n, m)
rests_both U W (read a b) n m = tt
rests_both U W fresh n m = tt
rests_both U W (write a b c) n m = tt

-- where none of the rows named passes a test, each fails it
pub none_named : (test : ℕ → Bool) (t : Term) → any_named test t ≡ false → Names (λ s y. test y ≡ false) t
unfolding any_named
none_named test (const k) e = tt
none_named test (var name k h) e = tt
none_named test (shift a k) e = e
none_named test (sum a b k) e = (or_left (test a) (test b) e, or_right (test a) (test b) e)
none_named test (diff a b k) e = (or_left (test a) (test b) e, or_right (test a) (test b) e)
none_named test (neg a k) e = e
none_named test (read a b) e = (or_left (test a) (test b) e, or_right (test a) (test b) e)
none_named test fresh e = tt
none_named test (write a b c) e =
    let d : (test a || test b) ≡ false = or_left (test a || test b) (test c) e in
    (or_left (test a) (test b) d, or_right (test a) (test b) d, or_right (test a || test b) (test c) e)

-- tests that agree on the rows named
pub any_named_local : (test test' : ℕ → Bool) (t : Term) → Names (λ s y. test y ≡ test' y) t → any_named test t ≡ any_named test' t
unfolding any_named
any_named_local test test' (const k) n = refl
any_named_local test test' (var name k h) n = refl
any_named_local test test' (shift a k) n = n
any_named_local test test' (sum a b k) n = ap₂ ◌||◌ n.0 n.1
any_named_local test test' (diff a b k) n = ap₂ ◌||◌ n.0 n.1
any_named_local test test' (neg a k) n = n
any_named_local test test' (read a b) n = ap₂ ◌||◌ n.0 n.1
any_named_local test test' fresh n = refl
any_named_local test test' (write a b c) n = ap₂ ◌||◌ (ap₂ ◌||◌ n.0 n.1) n.2
