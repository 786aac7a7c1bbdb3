-- A renewed result is the only lookup that has its row equations.
use Prim.Native.Nat.{ℕ, suc, ◌<◌}
use native.Mathlib.Nat.{le_refl, lt_trans, lt-suc_self}
use mathlib.Core.Path.{◌≡◌, refl, sym, ap, ◌∙◌, subst}
use mathlib.Core.Bool.{Bool, true, false, cond, true≢false}
use Rattle.basis.specs.Build.{grow}
use Rattle.basis.proofs.Pick.{pick_case, pick_true, pick_alike}
use Rattle.basis.proofs.Builds.{grow_above, grow_below, grown_is, from_below}
use Rattle.range.specs.declared.Range.{Range}
use Rattle.term.specs.Term.{Term, shift}
use Rattle.term.specs.Seen.{first_row, is_later}
use Rattle.term.specs.Relation.{range_by, range_of}
use Rattle.term.specs.Result.{rule_at, simplified, renewed, result}
use Rattle.term.specs.WellFormed.{Names}
use Rattle.term.proofs.Names.{NamesBelow, names_widen}
use Rattle.term.proofs.Seen.{seen_below, by_name_later}
use Rattle.term.proofs.Inside.{simplified_in}
use Rattle.term.proofs.Local.{range_by_local, rule_at_local, simplified_local}
use Rattle.term.proofs.Ranges.{range_eq}

-- a row that is not made anew names rows below it
abbrev pub KeptBelow : (ℕ → Bool) → (ℕ → Term) → Type 0
KeptBelow touched kept = (x : ℕ) → touched x ≡ false → Names (λ s y. y < x) (kept x)

-- one row made anew
abbrev turn : ℕ → ℕ → (ℕ → Bool) → (ℕ → Term) → (ℕ → Term) → ℕ → Term
turn M limit touched t f x = cond (touched x) (simplified M limit t f x) (f x)

-- the rows below x name rows below x
abbrev ClosedBelow : (ℕ → Term) → ℕ → Type 0
ClosedBelow f x = (s : Bool) (y : ℕ) → y < x → Names (λ (s' : Bool) (z : ℕ). z < x) (f y)

closed_below : (f : ℕ → Term) (x : ℕ) → ((y : ℕ) → y < x → Names (λ s z. z < y) (f y)) → ClosedBelow f x
closed_below f x low s y l = names_widen (f y) (λ s' z (h : z < y). lt_trans h l) (low y l)

-- a later VAR of a name that is made anew, over any rows at all
pub renewed_later : (M limit : ℕ) (touched : ℕ → Bool) (t kept : ℕ → Term) (x : ℕ) → touched x ≡ true → is_later t x ≡ true →
    renewed M limit touched t kept x ≡ shift (first_row t x) 0
unfolding renewed simplified rule_at
renewed_later M limit touched t kept x e later =
    grown_is (turn M limit touched t) kept x ∙ pick_true (touched x) _ _ e ∙ by_name_later t x later _

module _ (M limit : ℕ) (touched : ℕ → Bool) (t kept : ℕ → Term) (low : NamesBelow t) (low-kept : KeptBelow touched kept) where
  -- the rows when row x is made
  before : ℕ → ℕ → Term
  before = grow (turn M limit touched t) kept

  before_is : (x y : ℕ) → y < x → before x y ≡ renewed M limit touched t kept y
  unfolding before renewed
  before_is x y l = grow_below (turn M limit touched t) kept x y l

  made : (x : ℕ) → renewed M limit touched t kept x ≡ cond (touched x) (simplified M limit t (before x) x) (kept x)
  unfolding before renewed
  made x =
      grown_is (turn M limit touched t) kept x ∙
      ap (cond (touched x) (simplified M limit t (before x) x)) (grow_above (turn M limit touched t) kept x x (le_refl x))

  pub renewed_below : NamesBelow (renewed M limit touched t kept)
  renewed_below =
      from_below (λ x. Names (λ s y. y < x) (renewed M limit touched t kept x))
      (λ x earlier.
      subst (Names (λ s y. y < x)) (sym (made x))
      (pick_case (Names (λ s y. y < x)) (touched x)
      (λ (e : touched x ≡ true).
      simplified_in (λ s y. y < x) (before x)
      (closed_below (before x) x (λ y l. subst (Names (λ s z. z < y)) (sym (before_is x y l)) (earlier y l))) M limit t x (seen_below t low x))
      (λ (e : touched x ≡ false). low-kept x e)))

  pub renewed_eq : (x : ℕ) → renewed M limit touched t kept x ≡ cond (touched x) (simplified M limit t (renewed M limit touched t kept) x) (kept x)
  renewed_eq x =
      made x ∙
      pick_alike (touched x)
      (λ (e : touched x ≡ true).
      sym (simplified_local (λ s y. y < x) (renewed M limit touched t kept) (before x)
      (closed_below (renewed M limit touched t kept) x (λ y l. renewed_below y))
      (λ s y l. sym (before_is x y l)) M limit t x (seen_below t low x)))
      (λ (e : touched x ≡ false). refl)

  -- rows f, with ranges g, that have the equations of the first n rows have the first n rows
  pub renewed_only_stored :
      (f : ℕ → Term) (g : ℕ → Range) (n : ℕ) →
      ((x : ℕ) → x < n → f x ≡ cond (touched x) (rule_at M limit t f g x) (kept x)) →
      ((x : ℕ) → x < n → g x ≡ range_by M g (f x)) →
      (x : ℕ) → x < n → (f x ≡ renewed M limit touched t kept x) × (g x ≡ range_of M (renewed M limit touched t kept) x)
  unfolding simplified
  renewed_only_stored f g n rows ranges =
      from_below (λ x. x < n → (f x ≡ renewed M limit touched t kept x) × (g x ≡ range_of M (renewed M limit touched t kept) x))
      (λ x earlier l.
      let out : ℕ → Term = renewed M limit touched t kept in
      let same : f x ≡ out x =
      rows x l ∙
      pick_alike (touched x)
      (λ (e : touched x ≡ true).
      sym (rule_at_local (λ s y. y < x) out f (closed_below out x (λ y k. renewed_below y)) (λ s y k. sym (earlier y k (lt_trans k l)).0)
      (range_of M out) g (λ y k. sym (earlier y k (lt_trans k l)).1) M limit t x (seen_below t low x)))
      (λ (e : touched x ≡ false). refl) ∙
      sym (renewed_eq x) in (
        same,
        ranges x l ∙ ap (range_by M g) same ∙
            range_by_local M g (range_of M out) (out x) (names_widen {W = λ s y. s ≡ false → g y ≡ range_of M out y} (out x) (λ s y (k : y < x) word. (earlier y k (lt_trans k l)).1) (renewed_below x)) ∙
            sym (range_eq M out renewed_below x),
      ))

  -- any rows that have the equations of the first n rows have the first n rows
  pub renewed_only_below :
      (f : ℕ → Term) (n : ℕ) → ((x : ℕ) → x < n → f x ≡ cond (touched x) (simplified M limit t f x) (kept x)) →
      (x : ℕ) → x < n → f x ≡ renewed M limit touched t kept x
  renewed_only_below f n rows =
      from_below (λ x. x < n → f x ≡ renewed M limit touched t kept x)
      (λ x earlier l.
      rows x l ∙
      pick_alike (touched x)
      (λ (e : touched x ≡ true).
      sym (simplified_local (λ s y. y < x) (renewed M limit touched t kept) f
      (closed_below (renewed M limit touched t kept) x (λ y k. renewed_below y))
      (λ s y k. sym (earlier y k (lt_trans k l))) M limit t x (seen_below t low x)))
      (λ (e : touched x ≡ false). refl) ∙
      sym (renewed_eq x))

  pub renewed_only :
      (f : ℕ → Term) → ((x : ℕ) → f x ≡ cond (touched x) (simplified M limit t f x) (kept x)) →
      (x : ℕ) → f x ≡ renewed M limit touched t kept x
  renewed_only f rows x = renewed_only_below f (suc x) (λ y l. rows y) x (lt-suc_self x)

-- a fresh run
module _ (M limit : ℕ) (t : ℕ → Term) (low : NamesBelow t) where
  pub result_below : NamesBelow (result M limit t)
  unfolding result
  result_below = renewed_below M limit (λ x. true) t t low (λ x e. low x)

  pub result_eq : (x : ℕ) → result M limit t x ≡ simplified M limit t (result M limit t) x
  unfolding result
  result_eq x = renewed_eq M limit (λ x'. true) t t low (λ x' e. low x') x

  pub result_only : (f : ℕ → Term) → ((x : ℕ) → f x ≡ simplified M limit t f x) → (x : ℕ) → f x ≡ result M limit t x
  unfolding result
  result_only f rows x = renewed_only M limit (λ x'. true) t t low (λ x' e. low x') f rows x

  -- rows f, with ranges g, that have the equations of the first n rows
  pub result_only_stored :
      (f : ℕ → Term) (g : ℕ → Range) (n : ℕ) →
      ((x : ℕ) → x < n → f x ≡ rule_at M limit t f g x) →
      ((x : ℕ) → x < n → g x ≡ range_by M g (f x)) →
      (x : ℕ) → x < n → (f x ≡ result M limit t x) × (g x ≡ range_of M (result M limit t) x)
  unfolding result
  result_only_stored = renewed_only_stored M limit (λ x. true) t t low (λ x e. low x)

  -- it does not depend on the rows that stood there
  pub renewed_all : (kept : ℕ → Term) (x : ℕ) → renewed M limit (λ x'. true) t kept x ≡ result M limit t x
  renewed_all kept =
      result_only (renewed M limit (λ x. true) t kept) (λ x. renewed_eq M limit (λ x'. true) t kept low (λ x' e. absurd (true≢false e)) x)
