-- Building upwards: `put`, `grow`, `grown`, the equation that a build solves alone, and induction from below. Assumes nothing.
use mathlib.Core.Path.{◌≡◌, refl, sym, ◌∙◌}
use mathlib.Core.Logic.{⊎_elim}
use Prim.Native.Nat.{ℕ, zero, suc, ◌≤◌, ◌<◌}
use native.Mathlib.Nat.{le_refl, eq-or-lt_of_le, not-suc-le-zero, le_of_suc-le-suc, lt_of_lt_of_le}
use native.Mathlib.Omega.{arith}
use borrow.Author.Tests.{eq-eqb, ne_eqb}
use Rattle.basis.specs.Build.{put, grow, grown}

module _ {A : Type 0} where
  pub put_same : (f : ℕ → A) (n : ℕ) (v : A) → put f n v n ≡ v
  unfolding put
  put_same f n v = rw (eq-eqb n n refl)

  pub put_other : (f : ℕ → A) (n : ℕ) (v : A) (x : ℕ) → (x ≡ n → ⊥) → put f n v x ≡ f x
  unfolding put
  put_other f n v x h = rw (ne_eqb x n h)

  module _ (step : (ℕ → A) → ℕ → A) (f : ℕ → A) where
    pub grow_above : (n x : ℕ) → n ≤ x → grow step f n x ≡ f x
    unfolding grow
    grow_above zero x h = refl
    grow_above (suc n) x h =
        put_other (grow step f n) n (step (grow step f n) n) x (omega arith) ∙ grow_above n x (omega arith)

    pub grow_below : (n x : ℕ) → x < n → grow step f n x ≡ grown step f x
    unfolding grow grown
    grow_below zero x h = absurd (not-suc-le-zero h)
    grow_below (suc n) x h =
        ⊎_elim
        (λ (e : x ≡ n). rw e)
        (λ (l : x < n). put_other (grow step f n) n (step (grow step f n) n) x (omega arith) ∙ grow_below n x l)
        (eq-or-lt_of_le (le_of_suc-le-suc h))

    -- row x is made once the rows below it were made and while it is f's still
    pub grown_is : (x : ℕ) → grown step f x ≡ step (grow step f x) x
    unfolding grow grown
    grown_is x = put_same (grow step f x) x (step (grow step f x) x)

  -- what a rule makes of row x depends on the rows below x alone
  abbrev pub LooksBelow : ((ℕ → A) → ℕ → A) → Type 0
  LooksBelow rule = (g h : ℕ → A) (x : ℕ) → ((y : ℕ) → y < x → g y ≡ h y) → rule g x ≡ rule h x

  module _ (rule : (ℕ → A) → ℕ → A) (below : LooksBelow rule) where
    -- a build solves the rule's equation where its step makes what the rule does of a row that is f's still
    pub grown_solves : (step : (ℕ → A) → ℕ → A) (f : ℕ → A)
        → ((g : ℕ → A) (x : ℕ) → g x ≡ f x → step g x ≡ rule g x)
        → (x : ℕ) → grown step f x ≡ rule (grown step f) x
    grown_solves step f agree x =
        grown_is step f x ∙ agree (grow step f x) x (grow_above step f x x (le_refl x))
        ∙ below (grow step f x) (grown step f) x (grow_below step f x)

    solves_below : (g h : ℕ → A) → ((x : ℕ) → g x ≡ rule g x) → ((x : ℕ) → h x ≡ rule h x)
        → (n x : ℕ) → x < n → g x ≡ h x
    solves_below g h p q zero x l = absurd (not-suc-le-zero l)
    solves_below g h p q (suc n) x l =
        p x ∙ below g h x (λ (y : ℕ) (k : y < x). solves_below g h p q n y (omega arith)) ∙ sym (q x)

    -- and nothing else solves it
    pub solves_only : (g h : ℕ → A) → ((x : ℕ) → g x ≡ rule g x) → ((x : ℕ) → h x ≡ rule h x) → (x : ℕ) → g x ≡ h x
    solves_only g h p q x = solves_below g h p q (suc x) x (le_refl (suc x))

-- what holds of a row where it holds of every row below it holds of every row
pub from_below : (P : ℕ → Type 0) → ((n : ℕ) → ((m : ℕ) → m < n → P m) → P n) → (n : ℕ) → P n
from_below P up n = up n (go n)
  where
    go : (k m : ℕ) → m < k → P m
    go zero m h = absurd (not-suc-le-zero h)
    go (suc k) m h = up m (λ y l. go k y (lt_of_lt_of_le l (le_of_suc-le-suc h)))
