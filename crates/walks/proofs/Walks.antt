-- The walk, step by step: what is left to walk, behind the stores compared, gives the whole walk. Assumes nothing.
use Prim.Native.Nat.{ℕ, suc, ◌+◌, ◌-◌, ◌≤◌, ◌<◌}
use native.Mathlib.Nat.{add-zero}
use native.Mathlib.Omega.{arith}
use mathlib.Core.Path.{◌≡◌, refl, sym, ap, ◌∙◌}
use mathlib.Core.Bool.{true}
use mathlib.Core.List.{List}
use Rattle.range.specs.declared.Range.{Range}
use Rattle.range.specs.Store.{kept}
use Rattle.term.specs.Term.{Term, const, var, shift, sum, diff, neg, read, fresh, write, is_array}
use Rattle.term.specs.WellFormed.{Names}
use Rattle.term.specs.Bytes.{look}
use Rattle.term.specs.declared.Relation.{Relation}
use Rattle.term.specs.declared.Relation.TheVariants.{Same, Apart, Unknown}
use Rattle.term.specs.Relation.{related}
use Rattle.term.specs.Walk.{Walk, found, passed, undecided, ended, step, walk_at, walk, compared}
use Rattle.term.proofs.Inside.{WalkIn, walk_in}
use Rattle.walks.specs.declared.relation.Index.{Index}
use Rattle.walks.specs.declared.walking.Step.{Step}
use Rattle.walks.specs.declared.walking.Step.TheVariants.{Hit, Next, Stay, End}
use Rattle.walks.specs.declared.walking.Landing.{Landing}
use Rattle.walks.specs.declared.walking.Landing.TheVariants.{Found, Stopped}
use Rattle.walks.specs.declared.walking.Walked.{Walked}
use Rattle.walks.specs.Walked.{step_by, step_at, landing, walked, walked_by}
use Rattle.walks.specs.Ready.{NamesBelow, Standing, Walking, Following}
use Rattle.walks.proofs.Reach.{rows_closed}

-- ---- over lookups

-- a walk on behind one store more
abbrev further : Walked → Walked
further v = walked v.landing (suc v.compared)

walk_by : ℕ → (ℕ → Walked) → Step → Walked
walk_by m onward (Hit c) = walked (Found c) 1
walk_by m onward (Next a) = further (onward a)
walk_by m onward Stay = walked (Stopped m) 1
walk_by m onward End = walked (Stopped m) 0

walk_known : (m a c : ℕ) (onward : ℕ → Walk) (k : Relation) → walked_by (step m a c onward k) ≡ walk_by m (λ n. walked_by (onward n)) (step_by a c k)
unfolding step walked_by landing compared walk_by step_by
walk_known m a c onward Same = refl
walk_known m a c onward Apart = refl
walk_known m a c onward Unknown = refl

module _ (f : ℕ → Term) (g : ℕ → Range) (i : ℕ) where
  walk_told : (m : ℕ) (onward : ℕ → Walk) (t : Term) → walked_by (walk_at f g i m onward t) ≡ walk_by m (λ n. walked_by (onward n)) (step_at f g i t)
  unfolding walk_at walked_by landing compared walk_by step_at
  walk_told m onward (const k) = refl
  walk_told m onward (var name k h) = refl
  walk_told m onward (shift a k) = refl
  walk_told m onward (sum a b k) = refl
  walk_told m onward (diff a b k) = refl
  walk_told m onward (neg a k) = refl
  walk_told m onward (read a b) = refl
  walk_told m onward fresh = refl
  walk_told m onward (write a b c) = walk_known m a c onward (related f g b i)

  walk_step : (left m : ℕ) → walked_by (walk f g i (suc left) m) ≡ walk_by m (λ n. walked_by (walk f g i left n)) (step_at f g i (f m))
  unfolding walk
  walk_step left m = walk_told m (walk f g i left) (f m)

  walk_none : (m : ℕ) → walked_by (walk f g i 0 m) ≡ walked (Stopped m) 0
  unfolding walk walked_by landing compared
  walk_none m = refl

-- ---- a step leads to rows below, and a walk ends at one

abbrev StepBelow : ℕ → Step → Type 0
StepBelow m (Hit c) = c < m
StepBelow m (Next a) = a < m
StepBelow m Stay = Unit {0}
StepBelow m End = Unit {0}

step_known : (m a c : ℕ) (k : Relation) → a < m → c < m → StepBelow m (step_by a c k)
unfolding step_by
step_known m a c Same p q = q
step_known m a c Apart p q = p
step_known m a c Unknown p q = tt

step_below : (f : ℕ → Term) (g : ℕ → Range) (i m : ℕ) (t : Term) → NamesBelow m t → StepBelow m (step_at f g i t)
unfolding step_at
step_below f g i m (const k) h = tt
step_below f g i m (var name k u) h = tt
step_below f g i m (shift a k) h = tt
step_below f g i m (sum a b k) h = tt
step_below f g i m (diff a b k) h = tt
step_below f g i m (neg a k) h = tt
step_below f g i m (read a b) h = tt
step_below f g i m fresh h = tt
step_below f g i m (write a b c) h = step_known m a c (related f g b i) h.0 h.2

-- and from a store to an array
abbrev StepArray : (ℕ → Term) → Step → Type 0
StepArray f (Hit c) = Unit {0}
StepArray f (Next a) = is_array (f a) ≡ true
StepArray f Stay = Unit {0}
StepArray f End = Unit {0}

array_known : (f : ℕ → Term) (a c : ℕ) (k : Relation) → is_array (f a) ≡ true → StepArray f (step_by a c k)
unfolding step_by
array_known f a c Same e = tt
array_known f a c Apart e = e
array_known f a c Unknown e = tt

step_array : (f : ℕ → Term) (g : ℕ → Range) (i : ℕ) (t : Term) → Names (λ array y. is_array (f y) ≡ array) t → StepArray f (step_at f g i t)
unfolding step_at
step_array f g i (const k) h = tt
step_array f g i (var name k u) h = tt
step_array f g i (shift a k) h = tt
step_array f g i (sum a b k) h = tt
step_array f g i (diff a b k) h = tt
step_array f g i (neg a k) h = tt
step_array f g i (read a b) h = tt
step_array f g i fresh h = tt
step_array f g i (write a b c) h = array_known f a c (related f g b i) h.0

abbrev pub LandsBelow : ℕ → Landing → Type 0
LandsBelow r (Found c) = c < r
LandsBelow r (Stopped n) = n < r

lands_in : (r : ℕ) (w : Walk) → WalkIn (λ array y. y < r) w → LandsBelow r (landing w)
unfolding landing
lands_in r (found m c) h = h
lands_in r (passed m onward) h = lands_in r onward h
lands_in r (undecided m) h = h
lands_in r (ended m) h = h

pub lands_below : (R : List ℕ) (g : ℕ → Range) (r i limit m : ℕ) → Standing R r → m < r
    → LandsBelow r (landing (walk (look R) g i limit m))
lands_below R g r i limit m rows l =
    lands_in r (walk (look R) g i limit m) (walk_in (λ array y. y < r) (look R) (rows_closed R r rows) g i limit m l)

-- ---- the loop

-- a walk on behind so many stores
abbrev pub after : ℕ → Walked → Walked
after number v = walked v.landing (number + v.compared)

-- at array row n, with `compared` stores behind
pub record Onward (R : List ℕ) (S : List Range) (limit r i m n compared : ℕ) : Type 0 where
  pub rest : after compared (walked_by (walk (look R) (kept S) i (limit - compared) n)) ≡ walked_by (walk (look R) (kept S) i limit m)
  pub below : n < r
  pub array : is_array (look R n) ≡ true
  pub few : compared ≤ limit

module _ (R : List ℕ) (S : List Range) (limit r : ℕ) (j : Index) (m : ℕ) (given : Walking R S r j m) (follow : Following R S r m) where
  pub walk_begins : Onward R S limit r j.row m m 0
  walk_begins =
      record {
        rest = ap (walked _) (omega arith) ∙ ap (λ (k : ℕ). walked_by (walk (look R) (kept S) j.row k m)) (omega arith);
        below = given.below;
        array = follow.array;
        few = omega arith;
      }

  module _ (n compared : ℕ) (inv : Onward R S limit r j.row m n compared) where
    pub walk_at_lem : Walking R S r j n
    walk_at_lem = record { rows = given.rows; index = given.index; below = inv.below }

    pub walk_follows : Following R S r n
    walk_follows = record { links = follow.links; sorted = follow.sorted; array = inv.array }

    pub walk_spent : {v : Walked} → limit ≤ compared → v ≡ walked (Stopped n) limit → v ≡ walked_by (walk (look R) (kept S) j.row limit m)
    walk_spent h e =
        let none : limit - compared ≡ 0 = omega (arith, inv.few) in
        let all : limit ≡ compared = omega (arith, inv.few) in
        e ∙ ap (walked (Stopped n)) (all ∙ sym (add-zero compared)) ∙ ap (after compared) (sym (walk_none (look R) (kept S) j.row n)) ∙ rw none at inv.rest

    module _ (s : Step) (more : compared < limit) (told : s ≡ step_at (look R) (kept S) j.row (look R n)) where
      one_more : after compared (walk_by n (λ a. walked_by (walk (look R) (kept S) j.row (limit - (compared + 1)) a)) s) ≡ walked_by (walk (look R) (kept S) j.row limit m)
      one_more =
          let left : limit - compared ≡ suc (limit - (compared + 1)) = omega arith in
          rw (← (rw left at inv.rest), told) (ap (after compared) (sym (walk_step (look R) (kept S) j.row (limit - (compared + 1)) n)))

      pub walk_hits : (c : ℕ) {v : Walked} → s ≡ Hit c → v ≡ walked (Found c) (compared + 1) → v ≡ walked_by (walk (look R) (kept S) j.row limit m)
      unfolding walk_by
      walk_hits c e k = k ∙ rw e at one_more

      pub walk_stays : {v : Walked} → s ≡ Stay → v ≡ walked (Stopped n) (compared + 1) → v ≡ walked_by (walk (look R) (kept S) j.row limit m)
      unfolding walk_by
      walk_stays e k = k ∙ rw e at one_more

      pub walk_ends : {v : Walked} → s ≡ End → v ≡ walked (Stopped n) compared → v ≡ walked_by (walk (look R) (kept S) j.row limit m)
      unfolding walk_by
      walk_ends e k = k ∙ ap (walked (Stopped n)) (sym (add-zero compared)) ∙ rw e at one_more

      next_below : (a : ℕ) → s ≡ Next a → a < n
      next_below a e =
          rw (sym told ∙ e) at (step_below (look R) (kept S) j.row n (look R n) (given.rows.names n inv.below))

      next_array : (a : ℕ) → s ≡ Next a → is_array (look R a) ≡ true
      next_array a e =
          rw (sym told ∙ e) at (step_array (look R) (kept S) j.row (look R n) (follow.sorted.sorts n inv.below))

      pub walk_goes_on : (a : ℕ) → s ≡ Next a → Onward R S limit r j.row m a (compared + 1)
      unfolding walk_by
      walk_goes_on a e =
          record {
            rest = ap (walked _) (omega arith) ∙ rw e at one_more;
            below = omega (arith, next_below a e, inv.below);
            array = next_array a e;
            few = omega arith;
          }
