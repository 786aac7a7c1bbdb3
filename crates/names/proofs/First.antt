-- The first row of a name: where it stands, that it is one, and that it is the first.
use Prim.Native.Nat.{ℕ, zero, suc, ◌≤◌, ◌<◌}
use native.Mathlib.Nat.{le_refl, lt_trans}
use native.Mathlib.Omega.{arith}
use native.Mathlib.Decide.{dec_lt, ℕ_discrete}
use mathlib.Core.Path.{◌≡◌, refl, sym, ap, ◌∙◌}
use mathlib.Core.Bool.{true, false}
use mathlib.Core.Logic.{dite}
use lib.Dec.{eqb}
use borrow.Author.Tests.{eqb-true, eqb-false, eq-eqb, ne_eqb}
use Rattle.basis.proofs.Pick.{pick_case, pick_true, pick_false}
use Rattle.names.specs.First.{first_named, first_of}

module _ (names : ℕ → ℕ) (name : ℕ) where
  pub first_low : (n : ℕ) → first_named names name n ≤ n
  unfolding first_named
  first_low zero = omega arith
  first_low (suc n) =
      pick_case (λ y. y ≤ suc n) (eqb (names (first_named names name n)) name)
      (λ (e : eqb (names (first_named names name n)) name ≡ true). omega (arith, first_low n))
      (λ (e : eqb (names (first_named names name n)) name ≡ false). le_refl (suc n))

  pub first_has : (n : ℕ) → first_named names name n < n → names (first_named names name n) ≡ name
  unfolding first_named
  first_has zero = λ l. absurd (omega arith)
  first_has (suc n) =
      pick_case (λ y. y < suc n → names y ≡ name) (eqb (names (first_named names name n)) name)
      (λ (e : eqb (names (first_named names name n)) name ≡ true) l. eqb-true _ name e)
      (λ (e : eqb (names (first_named names name n)) name ≡ false) l. absurd (omega arith))

  pub first_least : (n y : ℕ) → y < first_named names name n → names y ≡ name → ⊥
  unfolding first_named
  first_least zero y = λ l e. absurd (omega arith)
  first_least (suc n) y =
      pick_case (λ f. y < f → names y ≡ name → ⊥) (eqb (names (first_named names name n)) name)
      (λ (e : eqb (names (first_named names name n)) name ≡ true) l. first_least n y l)
      (λ (e : eqb (names (first_named names name n)) name ≡ false) l d.
      dite (dec_lt y (first_named names name n))
      (λ (k : y < first_named names name n). first_least n y k d)
      (λ (k : y < first_named names name n → ⊥).
      dite (dec_lt (first_named names name n) n)
      (λ (h : first_named names name n < n). eqb-false _ name e (first_has n h))
      (λ (h : first_named names name n < n → ⊥).
      let low : first_named names name n ≤ n = first_low n in
      let same : first_named names name n ≡ y = omega arith in
      eqb-false _ name e (ap names same ∙ d))))

  -- a row below n of the name, before which there is none, is the first
  pub first_found : (n y : ℕ) → y < n → names y ≡ name → ((z : ℕ) → z < y → names z ≡ name → ⊥) → first_named names name n ≡ y
  first_found n y l e none =
      let before : first_named names name n < y → ⊥ = λ k. none _ k (first_has n (lt_trans k l)) in
      let behind : y < first_named names name n → ⊥ = λ k. first_least n y k e in
      omega arith

  -- where no row below n has it, there is none
  pub first_none : (n : ℕ) → ((z : ℕ) → z < n → names z ≡ name → ⊥) → first_named names name n ≡ n
  first_none n none =
      dite (dec_lt (first_named names name n) n)
      (λ (k : first_named names name n < n). absurd (none _ k (first_has n k)))
      (λ (k : first_named names name n < n → ⊥). let low : first_named names name n ≤ n = first_low n in omega arith)

module _ (names : ℕ → ℕ) (x : ℕ) where
  pub first_of_low : first_of names x ≤ x
  unfolding first_of
  first_of_low =
      pick_case (λ y. y ≤ x) (eqb (names x) 0)
      (λ (e : eqb (names x) 0 ≡ true). le_refl x)
      (λ (e : eqb (names x) 0 ≡ false). first_low names (names x) x)

  -- a row without a name is its own first
  pub nameless_first : names x ≡ 0 → first_of names x ≡ x
  unfolding first_of
  nameless_first e = pick_true _ _ _ (eq-eqb (names x) 0 e)

  pub named_first : (names x ≡ 0 → ⊥) → first_of names x ≡ first_named names (names x) x
  unfolding first_of
  named_first h = pick_false _ _ _ (ne_eqb (names x) 0 h)

  -- the first has the name
  pub first_of_name : names (first_of names x) ≡ names x
  first_of_name =
      dite (dec_lt (first_of names x) x)
      (λ (l : first_of names x < x).
      dite (ℕ_discrete (names x) 0)
      (λ (e : names x ≡ 0). ap names (nameless_first e))
      (λ (h : names x ≡ 0 → ⊥). ap names (named_first h) ∙ first_has names (names x) x (rw (named_first h) at l)))
      (λ (l : first_of names x < x → ⊥). let low : first_of names x ≤ x = first_of_low in let same : first_of names x ≡ x = omega arith in ap names same)

  -- what is not its own first has a name
  pub later_named : first_of names x < x → names x ≡ 0 → ⊥
  later_named l e = let same : first_of names x ≡ x = nameless_first e in omega arith

  -- no row before the first has the name
  pub first_of_least : (names x ≡ 0 → ⊥) → (y : ℕ) → y < first_of names x → names y ≡ names x → ⊥
  first_of_least h y l = first_least names (names x) x y (rw (named_first h) at l)

  -- a row of the name, before which there is none, is the first
  pub first_of_found : (names x ≡ 0 → ⊥) → (y : ℕ) → y ≤ x → names y ≡ names x → ((z : ℕ) → z < y → names z ≡ names x → ⊥) → first_of names x ≡ y
  first_of_found h y l e none =
      named_first h ∙
      dite (dec_lt y x)
      (λ (k : y < x). first_found names (names x) x y k e none)
      (λ (k : y < x → ⊥). let same : y ≡ x = omega arith in rw same (first_none names (names x) x (λ z d. none z (omega arith))))

-- the first is its own first
pub first_of_first : (names : ℕ → ℕ) (x : ℕ) → first_of names (first_of names x) ≡ first_of names x
first_of_first names x =
    dite (ℕ_discrete (names x) 0)
    (λ (e : names x ≡ 0). ap (first_of names) (nameless_first names x e))
    (λ (h : names x ≡ 0 → ⊥).
    first_of_found names (first_of names x) (λ e. h (sym (first_of_name names x) ∙ e)) (first_of names x) (le_refl _) refl
    (λ z l e. first_of_least names x h z l (e ∙ first_of_name names x)))

-- a row is its own first where no row before it has its name
pub alone_first : (names : ℕ → ℕ) (x : ℕ) → ((y : ℕ) → y < x → names y ≡ names x → names x ≡ 0) → first_of names x ≡ x
alone_first names x alone =
    dite (ℕ_discrete (names x) 0)
    (nameless_first names x)
    (λ (h : names x ≡ 0 → ⊥). first_of_found names x h x (le_refl x) refl (λ z l e. h (alone z l e)))

-- rows of one name have one first
pub first_of_shared : (names : ℕ → ℕ) (x y : ℕ) → (names x ≡ 0 → ⊥) → names x ≡ names y → first_of names x ≡ first_of names y
first_of_shared names x y named same =
    let before : first_of names x < first_of names y → ⊥ = λ l. first_of_least names y (λ e. named (same ∙ e)) _ l (first_of_name names x ∙ same) in
    let behind : first_of names y < first_of names x → ⊥ = λ l. first_of_least names x named _ l (first_of_name names y ∙ sym same) in
    omega arith

-- names that differ in row r alone have one first for row x, where neither first is r
pub first_of_alike : (names names' : ℕ → ℕ) (r x : ℕ) → ((y : ℕ) → (y ≡ r → ⊥) → names y ≡ names' y) → (x ≡ r → ⊥) →
    (first_of names x ≡ r → ⊥) → (first_of names' x ≡ r → ⊥) → first_of names x ≡ first_of names' x
first_of_alike names names' r x alike other not_here not_there =
    dite (ℕ_discrete (names x) 0)
    (λ (e : names x ≡ 0). nameless_first names x e ∙ sym (nameless_first names' x (sym (alike x other) ∙ e)))
    (λ (named : names x ≡ 0 → ⊥).
    let before : first_of names x < first_of names' x → ⊥ =
    λ l. first_of_least names' x (λ e. named (alike x other ∙ e)) _ l (sym (alike _ not_here) ∙ first_of_name names x ∙ alike x other) in
    let behind : first_of names' x < first_of names x → ⊥ =
    λ l. first_of_least names x named _ l (alike _ not_there ∙ first_of_name names' x ∙ sym (alike x other)) in
    omega arith)
