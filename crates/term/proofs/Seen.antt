-- The table as it is read: a later VAR of a name refers to the first, which stands before it and is a VAR; every other row is as it stands.
use Prim.Native.Nat.{ℕ, ◌≤◌, ◌<◌}
use native.Mathlib.Omega.{arith}
use mathlib.Core.Path.{◌≡◌, refl, sym, ap, ◌∙◌, subst}
use mathlib.Core.Bool.{Bool, true, false, cond}
use lib.Dec.{ltb}
use borrow.Author.Tests.{ltb-true, ltb-false, lt-ltb, le-ltb}
use Rattle.basis.proofs.Pick.{test_case, pick_case, pick_true, pick_false}
use Rattle.names.specs.First.{first_of}
use Rattle.names.proofs.First.{first_of_low, first_of_name, first_of_first, first_of_least, first_of_shared, first_of_alike, later_named}
use Rattle.term.specs.Term.{Term, const, var, shift, sum, diff, neg, read, fresh, write, stated_by, is_array, any_named}
use Rattle.term.specs.Seen.{first_row, is_later, by_name, seen}
use Rattle.term.specs.WellFormed.{Fits, Names, Below, WellFormed}
use Rattle.term.proofs.Names.{NamesBelow, names_widen}

-- what states a name is a VAR
pub stated_case : (P : Term → Type 0) → ((name k h : ℕ) → P (var name k h)) → (u : Term) → (stated_by u ≡ 0 → ⊥) → P u
unfolding stated_by
stated_case P p (const k) named = absurd (named refl)
stated_case P p (var name k h) named = p name k h
stated_case P p (shift a k) named = absurd (named refl)
stated_case P p (sum a b k) named = absurd (named refl)
stated_case P p (diff a b k) named = absurd (named refl)
stated_case P p (neg a k) named = absurd (named refl)
stated_case P p (read a b) named = absurd (named refl)
stated_case P p fresh named = absurd (named refl)
stated_case P p (write a b c) named = absurd (named refl)

-- so it is a word, and refers to no row
pub stated_word : (u : Term) → (stated_by u ≡ 0 → ⊥) → is_array u ≡ false
unfolding is_array
stated_word = stated_case (λ u. is_array u ≡ false) (λ name k h. refl)

pub stated_bare : (test : ℕ → Bool) (u : Term) → (stated_by u ≡ 0 → ⊥) → any_named test u ≡ false
unfolding any_named
stated_bare test = stated_case (λ u. any_named test u ≡ false) (λ name k h. refl)

module _ (t : ℕ → Term) where
  abbrev names : ℕ → ℕ
  names y = stated_by (t y)

  module _ (x : ℕ) where
    pub first_row_low : first_row t x ≤ x
    unfolding first_row
    first_row_low = first_of_low names x

    pub first_row_name : stated_by (t (first_row t x)) ≡ stated_by (t x)
    unfolding first_row
    first_row_name = first_of_name names x

    -- the first is not a later one
    pub first_not_later : is_later t (first_row t x) ≡ false
    unfolding is_later first_row
    first_not_later =
        let same : first_of names (first_of names x) ≡ first_of names x = first_of_first names x in
        let high : first_of names x ≤ first_of names (first_of names x) = omega arith in
        le-ltb _ _ high

    pub is_later_lem : first_row t x < x → is_later t x ≡ true
    unfolding is_later
    is_later_lem = lt-ltb (first_row t x) x

    pub no_later : x ≤ first_row t x → is_later t x ≡ false
    unfolding is_later
    no_later = le-ltb (first_row t x) x

    pub own_first : is_later t x ≡ false → first_row t x ≡ x
    unfolding is_later
    own_first e = let low : first_row t x ≤ x = first_row_low in let high : x ≤ first_row t x = ltb-false _ _ e in omega arith

    pub by_name_own : is_later t x ≡ false → (own : Term) → by_name t x own ≡ own
    unfolding by_name
    by_name_own e own = pick_false (is_later t x) _ _ e

    pub seen_own : is_later t x ≡ false → seen t x ≡ t x
    unfolding seen
    seen_own e = by_name_own e (t x)

    module _ (later : is_later t x ≡ true) where
      pub later_below : first_row t x < x
      unfolding is_later
      later_below = ltb-true (first_row t x) x later

      pub later_states : stated_by (t x) ≡ 0 → ⊥
      unfolding first_row
      later_states = later_named names x later_below

      pub first_states : stated_by (t (first_row t x)) ≡ 0 → ⊥
      first_states e = later_states (sym first_row_name ∙ e)

      pub by_name_later : (own : Term) → by_name t x own ≡ shift (first_row t x) 0
      unfolding by_name
      by_name_later own = pick_true (is_later t x) _ _ later

  -- rows of one name have one first
  pub first_row_shared : (x y : ℕ) → (stated_by (t x) ≡ 0 → ⊥) → stated_by (t x) ≡ stated_by (t y) → first_row t x ≡ first_row t y
  unfolding first_row
  first_row_shared = first_of_shared names

  -- the first stands as it is
  pub seen_first : (x : ℕ) → seen t (first_row t x) ≡ t (first_row t x)
  seen_first x = seen_own (first_row t x) (first_not_later x)

  pub seen_sort : (x : ℕ) → is_array (seen t x) ≡ is_array (t x)
  unfolding seen by_name is_array
  seen_sort x =
      pick_case (λ (u : Term). is_array u ≡ is_array (t x)) (is_later t x)
      (λ (e : is_later t x ≡ true). sym (stated_word (t x) (later_states x e)))
      (λ (e : is_later t x ≡ false). refl)

  pub seen_row_below : (x : ℕ) → Names (λ s y. y < x) (t x) → Names (λ s y. y < x) (seen t x)
  unfolding seen by_name
  seen_row_below x low =
      pick_case (Names (λ s y. y < x)) (is_later t x) (λ (e : is_later t x ≡ true). later_below x e) (λ (e : is_later t x ≡ false). low)

  pub seen_below : NamesBelow t → NamesBelow (seen t)
  seen_below low x = seen_row_below x (low x)

  pub seen_later : (x : ℕ) → is_later t x ≡ true → seen t x ≡ shift (first_row t x) 0
  unfolding seen
  seen_later x e = by_name_later x e (t x)

  module _ (M : ℕ) (pos : 0 < M) (formed : WellFormed M t) where
    seen_fits : (x : ℕ) → Fits M (seen t x)
    unfolding seen by_name
    seen_fits x = pick_case (Fits M) (is_later t x) (λ (e : is_later t x ≡ true). pos) (λ (e : is_later t x ≡ false). formed.fits x)

    seen_names : (x : ℕ) → Names (Below (seen t) x) (seen t x)
    seen_names x =
        test_case (is_later t x)
        (λ (e : is_later t x ≡ true).
        subst (Names (Below (seen t) x)) (sym (seen_later x e))
        (record { below = later_below x e; sort = seen_sort (first_row t x) ∙ stated_word (t (first_row t x)) (first_states x e) }))
        (λ (e : is_later t x ≡ false).
        subst (Names (Below (seen t) x)) (sym (seen_own x e))
        (names_widen {W = Below (seen t) x} (t x) (λ s y (b : Below t x s y). record { below = b.below; sort = seen_sort y ∙ b.sort }) (formed.names x)))

    pub seen_formed : WellFormed M (seen t)
    seen_formed = record { fits = seen_fits; names = seen_names }

  -- a row without a name is read by itself
  pub by_name_bare : (x : ℕ) → stated_by (t x) ≡ 0 → (own : Term) → by_name t x own ≡ own
  unfolding by_name
  by_name_bare x e own = pick_case (λ (u : Term). u ≡ own) (is_later t x) (λ (later : is_later t x ≡ true). absurd (later_states x later e)) (λ (d : is_later t x ≡ false). refl)

  -- names stay below a bound
  pub seen_small : (bound : ℕ) → 0 < bound → ((x : ℕ) → stated_by (t x) < bound) → (x : ℕ) → stated_by (seen t x) < bound
  unfolding seen by_name stated_by
  seen_small bound some small x =
      pick_case (λ (u : Term). stated_by u < bound) (is_later t x) (λ (e : is_later t x ≡ true). some) (λ (e : is_later t x ≡ false). small x)

  -- where a row as it is read states a name, it stands as it is
  pub seen_states : (x : ℕ) → (stated_by (seen t x) ≡ 0 → ⊥) → is_later t x ≡ false
  unfolding seen by_name stated_by
  seen_states x =
      test_case (is_later t x)
      (λ (e : is_later t x ≡ true) h. absurd (h (ap stated_by (pick_true (is_later t x) _ _ e))))
      (λ (e : is_later t x ≡ false) h. e)

  -- of the rows as they are read no two state one name
  pub seen_alone : (x y : ℕ) → y < x → stated_by (seen t y) ≡ stated_by (seen t x) → (stated_by (seen t x) ≡ 0 → ⊥) → ⊥
  unfolding first_row
  seen_alone x y l same h =
      let own : is_later t x ≡ false = seen_states x h in
      let own_y : is_later t y ≡ false = seen_states y (λ e. h (sym same ∙ e)) in
      let is : stated_by (seen t x) ≡ stated_by (t x) = ap stated_by (seen_own x own) in
      first_of_least names x (λ e. h (is ∙ e)) y (rw (own_first x own) l) (ap stated_by (sym (seen_own y own_y)) ∙ same ∙ is)

-- a row with one first in two tables is named alike in both
pub by_name_same : (t t' : ℕ → Term) (x : ℕ) → first_row t x ≡ first_row t' x → (own : Term) → by_name t x own ≡ by_name t' x own
unfolding by_name is_later
by_name_same t t' x e own = ap (λ y. cond (ltb y x) (shift y 0) own) e

-- tables that differ in row r alone have one first for row x, where neither first is r
pub first_row_alike : (t t' : ℕ → Term) (r x : ℕ) → ((y : ℕ) → (y ≡ r → ⊥) → t y ≡ t' y) → (x ≡ r → ⊥) →
    (first_row t x ≡ r → ⊥) → (first_row t' x ≡ r → ⊥) → first_row t x ≡ first_row t' x
unfolding first_row
first_row_alike t t' r x alike other not_here not_there =
    first_of_alike (λ y. stated_by (t y)) (λ y. stated_by (t' y)) r x (λ y o. ap stated_by (alike y o)) other not_here not_there
