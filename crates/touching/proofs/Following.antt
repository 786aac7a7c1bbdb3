-- Names followed in one pass: of two tables that differ in row r alone, a row is touched where it is r, where it is a later row of a name that r leads in one
-- of the two, or where it names a touched row. So one set of marks serves both tables.
use Prim.Native.Nat.{ℕ, zero, suc, ◌<◌}
use native.Mathlib.Omega.{arith}
use native.Mathlib.Decide.{dec_lt, ℕ_discrete}
use mathlib.Core.Path.{◌≡◌, refl, sym, ap, ap₂, ◌∙◌}
use mathlib.Core.Bool.{Bool, true, false, cond, not, ◌&&◌, ◌||◌, and-or_distrib_left}
use mathlib.Core.Logic.{dite, inl}
use lib.Dec.{eqb}
use borrow.Author.Tests.{eqb-true, eqb-false, not-true, eq-eqb, ne_eqb, lt-ltb}
use Rattle.basis.proofs.Pick.{test_case, pick_case, pick_true, and_true, and_left, and_right, and_false_left, or_none}
use Rattle.names.specs.First.{first_named}
use Rattle.names.proofs.First.{first_low, first_least, first_none, first_of_found, first_of_least}
use Rattle.term.specs.Term.{Term, const, var, shift, sum, diff, neg, read, fresh, write, stated_by, any_named}
use Rattle.term.specs.Seen.{first_row, is_later, seen}
use Rattle.term.specs.Result.{touched_by, touched_in}
use Rattle.term.proofs.Names.{NamesBelow}
use Rattle.term.proofs.Seen.{stated_bare, first_row_name, later_states, first_states, seen_first, seen_later, seen_own}
use Rattle.term.proofs.Touched.{BelowBut, touched_eq, seen_below_but, below_before, below_after, is-touched-in}
use Rattle.touching.specs.Touched.{leading, follows}

-- tests that pass together are one
same_tests : (s t : Bool) → (s ≡ true → t ≡ true) → (t ≡ true → s ≡ true) → s ≡ t
same_tests true t p q = sym (p refl)
same_tests false true p q = q refl
same_tests false false p q = refl

-- ---- either of two tests

or_swap : (a b c d : Bool) → ((a || b) || (c || d)) ≡ ((a || c) || (b || d))
or_swap true b c d = refl
or_swap false true true d = refl
or_swap false true false d = refl
or_swap false false c d = refl

any_either : (f g : ℕ → Bool) (t : Term) → any_named (λ y. f y || g y) t ≡ (any_named f t || any_named g t)
unfolding any_named
any_either f g (const k) = refl
any_either f g (var name k h) = refl
any_either f g (shift a k) = refl
any_either f g (sum a b k) = or_swap (f a) (g a) (f b) (g b)
any_either f g (diff a b k) = or_swap (f a) (g a) (f b) (g b)
any_either f g (neg a k) = refl
any_either f g (read a b) = or_swap (f a) (g a) (f b) (g b)
any_either f g fresh = refl
any_either f g (write a b c) =
    ap (λ (s : Bool). s || (f c || g c)) (or_swap (f a) (g a) (f b) (g b)) ∙ or_swap (f a || f b) (g a || g b) (f c) (g c)

-- ---- the name that row r leads

-- names below n decide the first row of a name below n
first_local : (names names' : ℕ → ℕ) (name n : ℕ) → ((y : ℕ) → y < n → names y ≡ names' y) → first_named names name n ≡ first_named names' name n
unfolding first_named
first_local names names' name zero same = refl
first_local names names' name (suc n) same =
    ap (λ (y : ℕ). cond (eqb (names y) name) y (suc n)) (first_local names names' name n (λ y l. same y (omega arith))) ∙
    ap (λ (m : ℕ). cond (eqb m name) (first_named names' name n) (suc n)) (same (first_named names' name n) (omega (arith, first_low names' name n)))

leading_local : (names names' : ℕ → ℕ) (name r : ℕ) → ((y : ℕ) → y < r → names y ≡ names' y) → leading names name r ≡ leading names' name r
unfolding leading
leading_local names names' name r same = ap (λ (y : ℕ). cond (eqb y r) name 0) (first_local names names' name r same)

-- row x is a later row of the name that r leads
abbrev led : (ℕ → Term) → ℕ → ℕ → Bool
led t r x = is_later t x && eqb (first_row t x) r

module _ (t : ℕ → Term) (r x : ℕ) where
  abbrev names : ℕ → ℕ
  names y = stated_by (t y)

  abbrev lead : ℕ
  lead = leading names (names r) r

  -- told by the names alone
  abbrev led_by : Bool
  led_by = not (eqb (names x) 0) && eqb (names x) lead

  led_told : led t r x ≡ true → led_by ≡ true
  unfolding leading first_row
  led_told e =
      let later : is_later t x ≡ true = and_left (is_later t x) (eqb (first_row t x) r) e in
      let first : first_row t x ≡ r = eqb-true (first_row t x) r (and_right (is_later t x) (eqb (first_row t x) r) e) in
      let named : names x ≡ 0 → ⊥ = later_states t x later in
      let same : names r ≡ names x = ap names (sym first) ∙ first_row_name t x in
      let none : first_named names (names r) r ≡ r =
      first_none names (names r) r (λ z l e'. first_of_least names x named z (rw first l) (e' ∙ same)) in
      and_true (not (eqb (names x) 0)) (eqb (names x) lead) (ap not (ne_eqb (names x) 0 named))
      (eq-eqb (names x) lead (sym same ∙ sym (pick_true (eqb (first_named names (names r) r) r) (names r) 0 (eq-eqb _ r none))))

  -- what r leads it states, and no row before it does
  led_first : (names x ≡ 0 → ⊥) → names x ≡ lead → (names r ≡ names x) × (first_named names (names r) r ≡ r)
  unfolding leading
  led_first named =
      pick_case (λ (n : ℕ). names x ≡ n → (names r ≡ names x) × (first_named names (names r) r ≡ r)) (eqb (first_named names (names r) r) r)
      (λ (f : eqb (first_named names (names r) r) r ≡ true) e. (sym e, eqb-true _ r f))
      (λ (f : eqb (first_named names (names r) r) r ≡ false) e. absurd (named e))

  told_led : (x ≡ r → ⊥) → led_by ≡ true → led t r x ≡ true
  unfolding is_later first_row
  told_led other e =
      let named : names x ≡ 0 → ⊥ = eqb-false (names x) 0 (not-true _ (and_left (not (eqb (names x) 0)) (eqb (names x) lead) e)) in
      let is = led_first named (eqb-true (names x) lead (and_right (not (eqb (names x) 0)) (eqb (names x) lead) e)) in
      let none : (z : ℕ) → z < r → names z ≡ names x → ⊥ = λ z l e'. first_least names (names r) r z (rw is.1 l) (e' ∙ sym is.0) in
      let later : r < x =
      dite (dec_lt x r)
      (λ (l : x < r). absurd (none x l refl))
      (λ (l : x < r → ⊥). omega arith) in
      let first : first_row t x ≡ r = first_of_found names x named r (omega arith) is.0 none in
      and_true (is_later t x) (eqb (first_row t x) r) (rw first (lt-ltb r x later)) (eq-eqb _ r first)

  pub led_is : (x ≡ r → ⊥) → led t r x ≡ led_by
  led_is other = same_tests (led t r x) led_by led_told (told_led other)

-- ---- one table

module _ (t : ℕ → Term) (r : ℕ) (low : BelowBut r t) where
  abbrev reached : ℕ → Bool
  reached = touched_by (seen t) r

  reached_eq : (x : ℕ) → reached x ≡ (eqb x r || any_named reached (seen t x))
  reached_eq = touched_eq (seen t) r (seen_below_but t r low)

  -- the first of a name names no row
  reached_first : (x : ℕ) → is_later t x ≡ true → reached (first_row t x) ≡ eqb (first_row t x) r
  reached_first x later =
      reached_eq (first_row t x) ∙
      ap (λ (b : Bool). eqb (first_row t x) r || b) (ap (any_named reached) (seen_first t x) ∙ stated_bare reached (t (first_row t x)) (first_states t x later)) ∙
      or_none (eqb (first_row t x) r)

  reached_by : (x : ℕ) → any_named reached (seen t x) ≡ (led t r x || any_named reached (t x))
  unfolding any_named
  reached_by x =
      test_case (is_later t x)
      (λ (later : is_later t x ≡ true).
      ap (any_named reached) (seen_later t x later) ∙ reached_first x later ∙ sym (or_none (eqb (first_row t x) r)) ∙
      sym (ap₂ ◌||◌ (ap (λ (b : Bool). b && eqb (first_row t x) r) later) (stated_bare reached (t x) (later_states t x later))))
      (λ (own : is_later t x ≡ false).
      ap (any_named reached) (seen_own t x own) ∙
      ap (λ (b : Bool). b || any_named reached (t x)) (sym (and_false_left (is_later t x) (eqb (first_row t x) r) own)))

  pub reached_other : (x : ℕ) → (x ≡ r → ⊥) → reached x ≡ (led t r x || any_named reached (t x))
  reached_other x other = reached_eq x ∙ ap (λ (b : Bool). b || any_named reached (seen t x)) (ne_eqb x r other) ∙ reached_by x

-- ---- two tables that differ in row r alone, of which the second is well formed

module _ (before after : ℕ → Term) (r : ℕ) (alike : (x : ℕ) → (x ≡ r → ⊥) → before x ≡ after x) (low : NamesBelow after) where
  abbrev stated : ℕ → ℕ
  stated y = stated_by (after y)

  -- the names that r led and leads
  abbrev was : ℕ
  was = leading stated (stated_by (before r)) r

  abbrev is : ℕ
  is = leading stated (stated r) r

  abbrev touched : ℕ → Bool
  touched = touched_in before after r

  -- row x is told by its own name and by the rows that it names
  abbrev told : ℕ → Bool
  told x = eqb x r || follows was is (stated x) || any_named touched (after x)

  module _ (x : ℕ) (other : x ≡ r → ⊥) where
    led_before : led before r x ≡ (not (eqb (stated x) 0) && eqb (stated x) was)
    led_before =
        led_is before r x other ∙
        ap₂ (λ (name lead : ℕ). not (eqb name 0) && eqb name lead) (ap stated_by (alike x other))
        (leading_local (λ y. stated_by (before y)) stated (stated_by (before r)) r (λ y l. ap stated_by (alike y (λ e. omega arith))))

    led_either : (led before r x || led after r x) ≡ follows was is (stated x)
    unfolding follows
    led_either =
        ap₂ ◌||◌ led_before (led_is after r x other) ∙
        sym (and-or_distrib_left (not (eqb (stated x) 0)) (eqb (stated x) was) (eqb (stated x) is))

    reached_either : (any_named (touched_by (seen before) r) (before x) || any_named (touched_by (seen after) r) (after x)) ≡ any_named touched (after x)
    unfolding touched_in
    reached_either =
        ap (λ (u : Term). any_named (touched_by (seen before) r) u || any_named (touched_by (seen after) r) (after x)) (alike x other) ∙
        sym (any_either (touched_by (seen before) r) (touched_by (seen after) r) (after x))

    touched_other : touched x ≡ (follows was is (stated x) || any_named touched (after x))
    unfolding touched_in
    touched_other =
        ap₂ ◌||◌
        (reached_other before r (below_before before after r alike low) x other)
        (reached_other after r (below_after before after r alike low) x other) ∙
        or_swap (led before r x) (any_named (touched_by (seen before) r) (before x)) (led after r x) (any_named (touched_by (seen after) r) (after x)) ∙
        ap₂ ◌||◌ led_either reached_either

  pub touched_told : (x : ℕ) → touched x ≡ told x
  touched_told x =
      dite (ℕ_discrete x r)
      (λ (e : x ≡ r).
      is-touched-in before after r alike low x (inl e) ∙
      sym (ap (λ (b : Bool). b || follows was is (stated x) || any_named touched (after x)) (eq-eqb x r e)))
      (λ (other : x ≡ r → ⊥).
      touched_other x other ∙
      sym (ap (λ (b : Bool). b || follows was is (stated x) || any_named touched (after x)) (ne_eqb x r other)))
