-- The touched rows are row r and the rows that lead back to it; where names are followed, a row that is not touched has one first before and after the edit.
use Prim.Native.Nat.{ℕ, ◌<◌}
use native.Mathlib.Decide.{ℕ_discrete}
use mathlib.Core.Path.{◌≡◌, refl, sym, ap, ◌∙◌, subst}
use mathlib.Core.Bool.{Bool, true, false, ◌||◌, or-true, true≢false, false≢true}
use mathlib.Core.Logic.{◌⊎◌, inl, inr, ⊎_elim, dite}
use lib.Dec.{eqb}
use borrow.Author.Tests.{eqb-true, eq-eqb}
use Rattle.basis.specs.Build.{grow, grown}
use Rattle.basis.proofs.Pick.{test_case, or_case, or_left, or_right, or_false, or_true_left, or_true_right}
use Rattle.basis.proofs.Builds.{grow_below, grown_is, from_below}
use Rattle.term.specs.Term.{Term, const, var, shift, sum, diff, neg, read, fresh, write, any_named}
use Rattle.term.specs.WellFormed.{Names}
use Rattle.term.specs.Seen.{first_row, is_later, by_name, seen}
use Rattle.term.specs.Result.{touched_by, touched_in}
use Rattle.term.specs.Leads.{Refers, LeadsBack, directly, through}
use Rattle.term.proofs.Names.{NamesBelow, names_widen, names_both, none_named, any_named_local}
use Rattle.term.proofs.Seen.{seen_row_below, own_first, seen_later, by_name_same, first_row_alike}

-- each row named is one that the term refers to
pub names_referred : (t : Term) → Names (λ s y. Refers t y) t
names_referred (const k) = tt
names_referred (var name k h) = tt
names_referred (shift a k) = refl
names_referred (sum a b k) = (inl refl, inr refl)
names_referred (diff a b k) = (inl refl, inr refl)
names_referred (neg a k) = refl
names_referred (read a b) = (inl refl, inr refl)
names_referred fresh = tt
names_referred (write a b c) = (inl refl, inr (inl refl), inr (inr refl))

-- and what holds of the rows named holds of every row that it refers to
pub referred : (P : ℕ → Type 0) (t : Term) (y : ℕ) → Names (λ s z. P z) t → Refers t y → P y
referred P (const k) y n e = absurd e
referred P (var name k h) y n e = absurd e
referred P (shift a k) y n e = subst P (sym e) n
referred P (sum a b k) y n e = ⊎_elim (λ (q : y ≡ a). subst P (sym q) n.0) (λ (q : y ≡ b). subst P (sym q) n.1) e
referred P (diff a b k) y n e = ⊎_elim (λ (q : y ≡ a). subst P (sym q) n.0) (λ (q : y ≡ b). subst P (sym q) n.1) e
referred P (neg a k) y n e = subst P (sym e) n
referred P (read a b) y n e = ⊎_elim (λ (q : y ≡ a). subst P (sym q) n.0) (λ (q : y ≡ b). subst P (sym q) n.1) e
referred P fresh y n e = absurd e
referred P (write a b c) y n e =
    ⊎_elim (λ (q : y ≡ a). subst P (sym q) n.0) (⊎_elim (λ (q : y ≡ b). subst P (sym q) n.1) (λ (q : y ≡ c). subst P (sym q) n.2)) e

-- a test that a row passes to which the term refers
any_passes : (test : ℕ → Bool) (t : Term) → Names (λ s y. test y ≡ true → any_named test t ≡ true) t
unfolding any_named
any_passes test (const k) = tt
any_passes test (var name k h) = tt
any_passes test (shift a k) = λ e. e
any_passes test (sum a b k) = (λ e. rw e, λ e. rw e (or-true (test a)))
any_passes test (diff a b k) = (λ e. rw e, λ e. rw e (or-true (test a)))
any_passes test (neg a k) = λ e. e
any_passes test (read a b) = (λ e. rw e, λ e. rw e (or-true (test a)))
any_passes test fresh = tt
any_passes test (write a b c) = (λ e. rw e, λ e. rw (e, or-true (test a)), λ e. rw e (or-true (test a || test b)))

pub any_named_lem : (test : ℕ → Bool) (t : Term) (y : ℕ) → Refers t y → test y ≡ true → any_named test t ≡ true
any_named_lem test t y = referred (λ z. test z ≡ true → any_named test t ≡ true) t y (any_passes test t)

pub named_any : (test : ℕ → Bool) (t : Term) → any_named test t ≡ true → (y : ℕ) × Refers t y × (test y ≡ true)
unfolding any_named
named_any test (const k) e = absurd (false≢true e)
named_any test (var name k h) e = absurd (false≢true e)
named_any test (shift a k) e = (a, refl, e)
named_any test (sum a b k) e = or_case (test a) (test b) e (λ (q : test a ≡ true). (a, inl refl, q)) (λ (q : test b ≡ true). (b, inr refl, q))
named_any test (diff a b k) e = or_case (test a) (test b) e (λ (q : test a ≡ true). (a, inl refl, q)) (λ (q : test b ≡ true). (b, inr refl, q))
named_any test (neg a k) e = (a, refl, e)
named_any test (read a b) e = or_case (test a) (test b) e (λ (q : test a ≡ true). (a, inl refl, q)) (λ (q : test b ≡ true). (b, inr refl, q))
named_any test fresh e = absurd (false≢true e)
named_any test (write a b c) e =
    or_case (test a || test b) (test c) e
    (λ (d : (test a || test b) ≡ true).
    or_case (test a) (test b) d (λ (q : test a ≡ true). (a, inl refl, q)) (λ (q : test b ≡ true). (b, inr (inl refl), q)))
    (λ (q : test c ≡ true). (c, inr (inr refl), q))

-- one row's mark
abbrev mark : (ℕ → Term) → ℕ → (ℕ → Bool) → ℕ → Bool
mark t r marked x = eqb x r || any_named marked (t x)

-- every row but r, which may be anything, names rows below it
abbrev pub BelowBut : ℕ → (ℕ → Term) → Type 0
BelowBut r t = (x : ℕ) → (x ≡ r → ⊥) → Names (λ s y. y < x) (t x)

module _ (t : ℕ → Term) (r : ℕ) (low : BelowBut r t) where
  -- what is looked up below row x decides its mark
  mark_local : (marked marked' : ℕ → Bool) (x : ℕ) → ((y : ℕ) → y < x → marked y ≡ marked' y) → mark t r marked x ≡ mark t r marked' x
  mark_local marked marked' x same =
      dite (ℕ_discrete x r)
      (λ (e : x ≡ r). rw (eq-eqb x r e))
      (λ (other : x ≡ r → ⊥).
      ap (λ (b : Bool). eqb x r || b) (any_named_local marked marked' (t x) (names_widen (t x) (λ s y (l : y < x). same y l) (low x other))))

  pub touched_eq : (x : ℕ) → touched_by t r x ≡ (eqb x r || any_named (touched_by t r) (t x))
  unfolding touched_by
  touched_eq x =
      grown_is (mark t r) (λ y. false) x ∙
      mark_local (grow (mark t r) (λ y. false) x) (grown (mark t r) (λ y. false)) x (λ y l. grow_below (mark t r) (λ z. false) x y l)

  pub touched_itself : touched_by t r r ≡ true
  touched_itself = touched_eq r ∙ ap (λ (b : Bool). b || any_named (touched_by t r) (t r)) (eq-eqb r r refl)

  touched_naming : (x y : ℕ) → Refers (t x) y → touched_by t r y ≡ true → touched_by t r x ≡ true
  touched_naming x y n e = touched_eq x ∙ ap (λ (b : Bool). eqb x r || b) (any_named_lem (touched_by t r) (t x) y n e) ∙ or-true (eqb x r)

  leads_touched : (x : ℕ) → LeadsBack t r x → touched_by t r x ≡ true
  leads_touched x (directly n) = touched_naming x r n touched_itself
  leads_touched x (through {y = y} n back) = touched_naming x y n (leads_touched y back)

  pub is_touched_lem : (x : ℕ) → (x ≡ r) ⊎ LeadsBack t r x → touched_by t r x ≡ true
  is_touched_lem x (inl e) = subst (λ y. touched_by t r y ≡ true) (sym e) touched_itself
  is_touched_lem x (inr back) = leads_touched x back

  pub touched_is : (x : ℕ) → touched_by t r x ≡ true → (x ≡ r) ⊎ LeadsBack t r x
  touched_is =
      from_below (λ x. touched_by t r x ≡ true → (x ≡ r) ⊎ LeadsBack t r x)
      (λ x earlier e.
      dite (ℕ_discrete x r) inl
      (λ (other : x ≡ r → ⊥).
      or_case (eqb x r) (any_named (touched_by t r) (t x)) (sym (touched_eq x) ∙ e)
      (λ (q : eqb x r ≡ true). inl (eqb-true x r q))
      (λ (q : any_named (touched_by t r) (t x) ≡ true).
      let (y, n, e') = named_any (touched_by t r) (t x) q in
      inr (⊎_elim
      (λ (d : y ≡ r). directly (subst (Refers (t x)) d n))
      (λ (back : LeadsBack t r y). through n back)
      (earlier y (referred (λ z. z < x) (t x) y (low x other) n) e')))))

-- names followed
module _ (t : ℕ → Term) (r : ℕ) (low : BelowBut r t) where
  pub seen_below_but : BelowBut r (seen t)
  seen_below_but x other = seen_row_below t x (low x other)

  -- a row whose first is r
  pub first_touched : (x : ℕ) → first_row t x ≡ r → touched_by (seen t) r x ≡ true
  first_touched x e =
      is_touched_lem (seen t) r seen_below_but x
      (test_case (is_later t x)
      (λ (later : is_later t x ≡ true). inr (directly (subst (λ (u : Term). Refers u r) (sym (seen_later t x later)) (sym e))))
      (λ (own : is_later t x ≡ false). inl (sym (own_first t x own) ∙ e)))

-- tables that differ in row r alone, of which the second is well formed
module _ (before after : ℕ → Term) (r : ℕ) (alike : (x : ℕ) → (x ≡ r → ⊥) → before x ≡ after x) (low : NamesBelow after) where
  pub below_before : BelowBut r before
  below_before x other = subst (Names (λ s y. y < x)) (sym (alike x other)) (low x)

  pub below_after : BelowBut r after
  below_after x other = low x

  read_before : BelowBut r (seen before)
  read_before = seen_below_but before r below_before

  read_after : BelowBut r (seen after)
  read_after = seen_below_but after r below_after

  pub touched_in_is : (x : ℕ) → touched_in before after r x ≡ true → (x ≡ r) ⊎ LeadsBack (seen before) r x ⊎ LeadsBack (seen after) r x
  unfolding touched_in
  touched_in_is x e =
      or_case (touched_by (seen before) r x) (touched_by (seen after) r x) e
      (λ (q : touched_by (seen before) r x ≡ true).
      ⊎_elim inl (λ (back : LeadsBack (seen before) r x). inr (inl back)) (touched_is (seen before) r read_before x q))
      (λ (q : touched_by (seen after) r x ≡ true).
      ⊎_elim inl (λ (back : LeadsBack (seen after) r x). inr (inr back)) (touched_is (seen after) r read_after x q))

  pub is-touched-in : (x : ℕ) → (x ≡ r) ⊎ LeadsBack (seen before) r x ⊎ LeadsBack (seen after) r x → touched_in before after r x ≡ true
  unfolding touched_in
  is-touched-in x (inl e) = or_true_left (touched_by (seen before) r x) _ (is_touched_lem (seen before) r read_before x (inl e))
  is-touched-in x (inr (inl back)) = or_true_left (touched_by (seen before) r x) _ (is_touched_lem (seen before) r read_before x (inr back))
  is-touched-in x (inr (inr back)) = or_true_right (touched_by (seen before) r x) _ (is_touched_lem (seen after) r read_after x (inr back))

  -- a row that is not touched
  module _ (x : ℕ) (clear : touched_in before after r x ≡ false) where
    clear_before : touched_by (seen before) r x ≡ false
    unfolding touched_in
    clear_before = or_left _ _ clear

    clear_after : touched_by (seen after) r x ≡ false
    unfolding touched_in
    clear_after = or_right (touched_by (seen before) r x) _ clear

    pub untouched_other : x ≡ r → ⊥
    untouched_other e = true≢false (sym (is-touched-in x (inl e)) ∙ clear)

    -- has one first in both
    pub untouched_first : first_row before x ≡ first_row after x
    untouched_first =
        first_row_alike before after r x alike untouched_other
        (λ e. true≢false (sym (first_touched before r below_before x e) ∙ clear_before))
        (λ e. true≢false (sym (first_touched after r below_after x e) ∙ clear_after))

    untouched_seen : seen before x ≡ seen after x
    unfolding seen
    untouched_seen = by_name_same before after x untouched_first (before x) ∙ ap (by_name after x) (alike x untouched_other)

    none_before : any_named (touched_by (seen before) r) (seen before x) ≡ false
    none_before = or_right (eqb x r) _ (sym (touched_eq (seen before) r read_before x) ∙ clear_before)

    none_after : any_named (touched_by (seen after) r) (seen after x) ≡ false
    none_after = or_right (eqb x r) _ (sym (touched_eq (seen after) r read_after x) ∙ clear_after)

    -- and names rows that are not touched
    pub untouched_names : Names (λ s y. touched_in before after r y ≡ false) (seen before x)
    unfolding touched_in
    untouched_names =
        names_widen {U = λ s y. (touched_by (seen before) r y ≡ false) × (touched_by (seen after) r y ≡ false)} {W = λ s y. touched_in before after r y ≡ false} (seen before x) (λ s y b. or_false _ _ b.0 b.1)
        (names_both (λ s y. touched_by (seen before) r y ≡ false) (λ s y. touched_by (seen after) r y ≡ false) (seen before x)
        (none_named (touched_by (seen before) r) (seen before x) none_before)
        (subst (Names (λ s y. touched_by (seen after) r y ≡ false)) (sym untouched_seen) (none_named (touched_by (seen after) r) (seen after x) none_after)))
