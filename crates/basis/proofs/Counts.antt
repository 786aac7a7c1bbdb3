-- Counting the rows that pass a test, whether one does, and adding numbers of rows up. Assumes nothing.
use mathlib.Core.Path.{◌≡◌, refl, ap, ap₂, sym, ◌∙◌}
use mathlib.Core.Bool.{Bool, true, false, cond, true≢false}
use mathlib.Core.Logic.{dite}
use Prim.Native.Nat.{ℕ, zero, suc, ◌+◌, ◌*◌, ◌≤◌, ◌<◌}
use native.Mathlib.Nat.{le_refl, add-zero, add-suc, add_assoc, mul-add}
use native.Mathlib.Numerals.{add-one}
use native.Mathlib.Omega.{arith}
use native.Mathlib.Decide.{dec_lt}
use Rattle.basis.specs.Count.{count_where, total, any_below}
use Rattle.basis.proofs.Pick.{test_case, pick_case, or_true_left, or_true_right, or_false}

-- one row more
pub count_next : (test : ℕ → Bool) (n : ℕ) → count_where test (n + 1) ≡ count_where test n + cond (test n) 1 0
unfolding count_where
count_next test n = rw add-one

-- m rows, and n more
pub count_add : (test : ℕ → Bool) (m n : ℕ) → count_where test (m + n) ≡ count_where test m + count_where (λ x. test (m + x)) n
unfolding count_where
count_add test m zero = ap (count_where test) (add-zero m) ∙ sym (add-zero (count_where test m))
count_add test m (suc n) =
    ap (count_where test) (add-suc m n) ∙
    ap (λ (k : ℕ). k + cond (test (m + n)) 1 0) (count_add test m n) ∙
    add_assoc (count_where test m) (count_where (λ x. test (m + x)) n) (cond (test (m + n)) 1 0)

pub count_same : (s t : ℕ → Bool) (n : ℕ) → ((x : ℕ) → x < n → s x ≡ t x) → count_where s n ≡ count_where t n
unfolding count_where
count_same s t zero h = refl
count_same s t (suc n) h =
    ap₂ (λ (k : ℕ) (b : Bool). k + cond b 1 0) (count_same s t n (λ (x : ℕ) (l : x < n). h x (omega arith))) (h n (le_refl (suc n)))

pub count_most : (test : ℕ → Bool) (n : ℕ) → count_where test n ≤ n
unfolding count_where
count_most test zero = omega arith
count_most test (suc n) =
    pick_case (λ (k : ℕ). count_where test n + k ≤ suc n) (test n)
    (λ _. omega (arith, count_most test n)) (λ _. omega (arith, count_most test n))

still : (b : Bool) (n : ℕ) → cond b n 0 + cond b 1 0 ≡ cond b (suc n) 0
still true n = add-one n
still false n = refl

-- every row passes: n; every row fails: 0
pub count_constant : (b : Bool) (test : ℕ → Bool) (n : ℕ) → ((x : ℕ) → x < n → test x ≡ b) → count_where test n ≡ cond b n 0
unfolding count_where
count_constant b test zero h = pick_case (λ (k : ℕ). 0 ≡ k) b (λ e. refl) (λ e. refl)
count_constant b test (suc n) h =
    ap₂ (λ (k : ℕ) (t : Bool). k + cond t 1 0)
    (count_constant b test n (λ (x : ℕ) (l : x < n). h x (omega arith)))
    (h n (le_refl (suc n)))
    ∙ still b n

-- ---- numbers of rows, added up

pub total_next : (number : ℕ → ℕ) (n : ℕ) → total number (n + 1) ≡ total number n + number n
unfolding total
total_next number n = rw add-one

pub total_same : (number other : ℕ → ℕ) (n : ℕ) → ((x : ℕ) → x < n → number x ≡ other x) → total number n ≡ total other n
unfolding total
total_same number other zero h = refl
total_same number other (suc n) h = ap₂ (λ (k m : ℕ). k + m) (total_same number other n (λ (x : ℕ) (l : x < n). h x (omega arith))) (h n (le_refl (suc n)))

-- numbers of at most m where a test passes, and of 0 elsewhere
pub total_most : (m : ℕ) (number : ℕ → ℕ) (test : ℕ → Bool) (n : ℕ) → ((x : ℕ) → number x ≤ m * cond (test x) 1 0) → total number n ≤ m * count_where test n
unfolding total count_where
total_most m number test zero h = omega arith
total_most m number test (suc n) h =
    rw (mul-add m (count_where test n) (cond (test n) 1 0)) (omega (arith, total_most m number test n h, h n))

-- ---- whether one row passes

-- none of the first 0 rows passes a test; one more row that fails it changes nothing; one that passes it decides
pub any_zero : (test : ℕ → Bool) → any_below test 0 ≡ false
unfolding any_below
any_zero test = refl

pub any_next : (test : ℕ → Bool) (n : ℕ) → any_below test n ≡ false → test n ≡ false → any_below test (n + 1) ≡ false
unfolding any_below
any_next test n e f = rw add-one (or_false (any_below test n) (test n) e f)

pub any_here : (test : ℕ → Bool) (n x : ℕ) → x < n → test x ≡ true → any_below test n ≡ true
unfolding any_below
any_here test zero x l e = absurd (omega arith)
any_here test (suc n) x l e =
    dite (dec_lt x n)
    (λ (h : x < n). or_true_left (any_below test n) (test n) (any_here test n x h e))
    (λ (h : x < n → ⊥). let same : x ≡ n = omega arith in or_true_right (any_below test n) (test n) (rw same at e))

pub any_none : (test : ℕ → Bool) (n : ℕ) → any_below test n ≡ false → (x : ℕ) → x < n → test x ≡ false
any_none test n e x l = test_case (test x) (λ (t : test x ≡ true). absurd (true≢false (sym (any_here test n x l t) ∙ e))) (λ (t : test x ≡ false). t)
