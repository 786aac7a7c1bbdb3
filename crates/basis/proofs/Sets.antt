-- A run of stores: two in a row, what it leaves alone, what stands where it wrote, and how it is undone.
use Prim.Native.Nat.{ℕ, zero, suc, ◌+◌, ◌-◌, ◌<◌, ◌≤◌}
use native.Mathlib.Nat.{zero-add, add-zero, add-suc, suc-add}
use native.Mathlib.Omega.{arith}
use native.Mathlib.Decide.{dec_lt}
use mathlib.Core.Path.{◌≡◌, refl, ap, sym, ◌∙◌}
use mathlib.Core.Logic.{dite}
use mathlib.Core.List.{List, [], ◌∷◌, ◌++◌}
use lib.ListN.{length, get_or, take, drop, set, length-set, drop_of_length-le, length-take, length-drop}
use lib.Seq.{sets, sets-eq, length-sets, length-take-le, take_at, get_or-set_same, get_or-set_other, set-get_or, drop-cons, ext_get_or, take-set-le, drop-set-lt}

pub sets_append : (l : List ℕ) (i : ℕ) (xs ys : List ℕ) → sets (sets l i xs) (i + length xs) ys ≡ sets l i (xs ++ ys)
sets_append l i [] ys = rw add-zero
sets_append l i (x ∷ xs) ys = rw (add-suc, ← suc-add) (sets_append (set l i x) (suc i) xs ys)

pub sets_then : (l : List ℕ) (i k : ℕ) (xs ys : List ℕ) {m n : List ℕ} → m ≡ sets l i xs → n ≡ sets m (i + k) ys → length xs ≡ k → n ≡ sets l i (xs ++ ys)
sets_then l i k xs ys p q e = rw (q, p, ← e) (sets_append l i xs ys)

-- what stands before the run and behind it stays
pub sets_below : (l : List ℕ) (i : ℕ) (vs : List ℕ) (j : ℕ) → j < i → get_or (sets l i vs) j 0 ≡ get_or l j 0
sets_below l i [] j h = refl
sets_below l i (v ∷ vs) j h = sets_below (set l i v) (suc i) vs j (omega arith) ∙ get_or-set_other l i j v 0 (omega arith)

pub sets_above : (l : List ℕ) (i : ℕ) (vs : List ℕ) (j : ℕ) → i + length vs ≤ j → get_or (sets l i vs) j 0 ≡ get_or l j 0
sets_above l i [] j h = refl
sets_above l i (v ∷ vs) j h = sets_above (set l i v) (suc i) vs j (omega arith) ∙ get_or-set_other l i j v 0 (omega arith)

pub sets_inside : (l : List ℕ) (i : ℕ) (vs : List ℕ) (j : ℕ) → i + length vs ≤ length l → j < length vs → get_or (sets l i vs) (i + j) 0 ≡ get_or vs j 0
sets_inside l i [] j room h = absurd (omega arith)
sets_inside l i (v ∷ vs) zero room h = rw add-zero (sets_below (set l i v) (suc i) vs i (omega arith) ∙ get_or-set_same l i v 0 (omega arith))
sets_inside l i (v ∷ vs) (suc j) room h =
    rw (add-suc, ← suc-add) (sets_inside (set l i v) (suc i) vs j (rw length-set (omega arith)) (omega arith))

pub sets_at : (l : List ℕ) (i : ℕ) (vs : List ℕ) (j : ℕ) → i + length vs ≤ length l → i ≤ j → j < i + length vs → get_or (sets l i vs) j 0 ≡ get_or vs (j - i) 0
sets_at l i vs j room low high =
    let e : i + (j - i) ≡ j = omega arith in
    rw e at (sets_inside l i vs (j - i) room (omega arith))

pub take_sets : (n : ℕ) (l : List ℕ) (i : ℕ) (vs : List ℕ) → n ≤ i → take n (sets l i vs) ≡ take n l
take_sets n l i [] h = refl
take_sets n l i (v ∷ vs) h = take_sets n (set l i v) (suc i) vs (omega arith) ∙ take-set-le n l i v h

pub drop_sets : (n : ℕ) (l : List ℕ) (i : ℕ) (vs : List ℕ) → i + length vs ≤ n → drop n (sets l i vs) ≡ drop n l
drop_sets n l i [] h = refl
drop_sets n l i (v ∷ vs) h = drop_sets n (set l i v) (suc i) vs (omega arith) ∙ drop-set-lt n l i v (omega arith)

-- what was there, written again
pub sets_same : (l : List ℕ) (i n : ℕ) → sets l i (take n (drop i l)) ≡ l
sets_same l i zero = refl
sets_same l i (suc n) =
    dite (dec_lt i (length l))
    (λ (h : i < length l). rw (drop-cons l i 0 h) (ap (λ (m : List ℕ). sets m (suc i) (take n (drop (suc i) l))) (set-get_or l i 0) ∙ sets_same l (suc i) n))
    (λ (h : i < length l → ⊥). rw (drop_of_length-le l {i = i} (omega arith)))

-- a second run over a first
pub sets_twice : (l : List ℕ) (i : ℕ) (vs ws : List ℕ) → length vs ≡ length ws → i + length vs ≤ length l → sets (sets l i vs) i ws ≡ sets l i ws
sets_twice l i vs ws e room =
    ext_get_or 0 _ _ (simp length-sets) (λ j h.
    dite (dec_lt j i)
    (λ (b : j < i). sets_below (sets l i vs) i ws j b ∙ sets_below l i vs j b ∙ sym (sets_below l i ws j b))
    (λ (b : j < i → ⊥).
    dite (dec_lt j (i + length ws))
    (λ (a : j < i + length ws). sets_at (sets l i vs) i ws j (simp length-sets (omega arith)) (omega arith) a ∙ sym (sets_at l i ws j (omega arith) (omega arith) a))
    (λ (a : j < i + length ws → ⊥).
    sets_above (sets l i vs) i ws j (omega arith) ∙ sets_above l i vs j (omega arith) ∙ sym (sets_above l i ws j (omega arith)))))

-- a run undone: what was there written over it
pub sets_undone : (l : List ℕ) (i : ℕ) (vs : List ℕ) → i + length vs ≤ length l → sets (sets l i vs) i (take (length vs) (drop i l)) ≡ l
sets_undone l i vs room =
    sets_twice l i vs (take (length vs) (drop i l)) (sym (simp (length-take, length-drop) (omega arith))) room ∙ sets_same l i (length vs)

-- the first n bytes of a list, copied to the front of another, are there
pub copied_there : (n : ℕ) (from to : List ℕ) → n ≤ length from → n ≤ length to → take n (sets to 0 (take n from)) ≡ take n from
copied_there n from to h room =
    let long : length (take n from) ≡ n = length-take-le n from h in
    ap (take n) (sets-eq (take n from) to 0 (rw (long, zero-add) room)) ∙ take_at (take n from) (drop (0 + length (take n from)) to) n long
