-- Demand 3 over lookups: renewing the rows that lead back, over the table's own result, gives the result of the edited table.
-- The heart of it: the result of a row that is not touched names only rows that are not touched.
use Prim.Native.Nat.{ℕ, ◌<◌}
use native.Mathlib.Nat.{lt_trans}
use mathlib.Core.Path.{◌≡◌, sym, ap, ◌∙◌, subst}
use mathlib.Core.Bool.{Bool, true, false}
use Rattle.basis.proofs.Builds.{from_below}
use Rattle.basis.proofs.Pick.{pick_case}
use Rattle.term.specs.Term.{Term}
use Rattle.term.specs.WellFormed.{Names}
use Rattle.term.specs.Seen.{by_name, seen}
use Rattle.term.specs.Relation.{range_of}
use Rattle.term.specs.Rule.{rule}
use Rattle.term.specs.Result.{rule_at, simplified, renewed, result, touched_in}
use Rattle.term.proofs.Names.{NamesBelow, names_widen, names_both}
use Rattle.term.proofs.Seen.{seen_below, by_name_same}
use Rattle.term.proofs.Inside.{simplified_in}
use Rattle.term.proofs.Local.{simplified_local}
use Rattle.term.proofs.Renewed.{renewed_only, result_below, result_eq}
use Rattle.term.proofs.Touched.{untouched_other, untouched_first, untouched_names}

-- where rows that are not touched are simplified alike in both tables, and name only rows that are not touched
module _
    (M limit : ℕ)
    (t t' : ℕ → Term)
    (touched : ℕ → Bool)
    (low : NamesBelow t)
    (low' : NamesBelow t')
    (same : (x : ℕ) → touched x ≡ false → (f : ℕ → Term) → simplified M limit t f x ≡ simplified M limit t' f x)
    (clear : (x : ℕ) → touched x ≡ false → Names (λ s y. touched y ≡ false) (seen t x))
  where
    -- a row below x that is not touched
    abbrev Clear : ℕ → Bool → ℕ → Type 0
    Clear x s y = (y < x) × (touched y ≡ false)

    clear_names : (x : ℕ) → touched x ≡ false → Names (Clear x) (seen t x)
    clear_names x e = names_both (λ s y. y < x) (λ s y. touched y ≡ false) (seen t x) (seen_below t low x) (clear x e)

    -- row x has the result that it had, and this names only rows that are not touched
    abbrev Stays : ℕ → Type 0
    Stays x = (result M limit t x ≡ result M limit t' x) × Names (λ s y. touched y ≡ false) (result M limit t x)

    untouched : (x : ℕ) → touched x ≡ false → Stays x
    untouched =
        from_below (λ x. touched x ≡ false → Stays x)
        (λ x earlier e.
        let closed : (s : Bool) (y : ℕ) → Clear x s y → Names (Clear x) (result M limit t y) =
        λ s y u.
        names_both (λ s' z. z < x) (λ s' z. touched z ≡ false) (result M limit t y)
        (names_widen (result M limit t y) (λ s' z (l : z < y). lt_trans l u.0) (result_below M limit t low y))
        (earlier y u.0 u.1).1 in
        let own : Names (Clear x) (simplified M limit t (result M limit t) x) =
        simplified_in (Clear x) (result M limit t) closed M limit t x (clear_names x e) in (
          result_eq M limit t low x ∙
              simplified_local (Clear x) (result M limit t) (result M limit t') closed (λ s y u. (earlier y u.0 u.1).0) M limit t x (clear_names x e) ∙
              same x e (result M limit t') ∙
              sym (result_eq M limit t' low' x),
          subst (Names (λ s y. touched y ≡ false)) (sym (result_eq M limit t low x))
              (names_widen (simplified M limit t (result M limit t) x) (λ s y (u : Clear x s y). u.1) own),
        ))

    renewed_is_run : (x : ℕ) → renewed M limit touched t' (result M limit t) x ≡ result M limit t' x
    renewed_is_run x =
        sym (renewed_only M limit touched t' (result M limit t) low' (λ y e. result_below M limit t low y) (result M limit t')
        (λ y.
        pick_case (λ (u : Term). result M limit t' y ≡ u) (touched y)
        (λ (e : touched y ≡ true). result_eq M limit t' low' y)
        (λ (e : touched y ≡ false). sym (untouched y e).0)) x)

-- t' is t with another row r
module _
    (M limit : ℕ)
    (t t' : ℕ → Term)
    (r : ℕ)
    (alike : (x : ℕ) → (x ≡ r → ⊥) → t x ≡ t' x)
    (low : NamesBelow t)
    (low' : NamesBelow t')
  where
    same : (x : ℕ) → touched_in t t' r x ≡ false → (f : ℕ → Term) → simplified M limit t f x ≡ simplified M limit t' f x
    unfolding simplified rule_at
    same x e f =
        by_name_same t t' x (untouched_first t t' r alike low' x e) (rule M limit f (range_of M f) (t x)) ∙
        ap (λ (u : Term). by_name t' x (rule M limit f (range_of M f) u)) (alike x (untouched_other t t' r alike low' x e))

    -- a row that is not touched has the result that it had
    pub untouched_result : (x : ℕ) → touched_in t t' r x ≡ false → result M limit t x ≡ result M limit t' x
    untouched_result x e = (untouched M limit t t' (touched_in t t' r) low low' same (untouched_names t t' r alike low') x e).0

    pub edit_is_run : (x : ℕ) → renewed M limit (touched_in t t' r) t' (result M limit t) x ≡ result M limit t' x
    edit_is_run = renewed_is_run M limit t t' (touched_in t t' r) low low' same (untouched_names t t' r alike low')
