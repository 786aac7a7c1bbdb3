-- A result row names only rows that its original leads back to.
use Prim.Native.Nat.{ℕ, ◌<◌}
use native.Mathlib.Nat.{lt_trans}
use mathlib.Core.Path.{sym, subst}
use Rattle.basis.proofs.Builds.{from_below}
use Rattle.term.specs.Term.{Term}
use Rattle.term.specs.WellFormed.{Names}
use Rattle.term.specs.Result.{result}
use Rattle.term.specs.Seen.{seen}
use Rattle.term.specs.Leads.{Refers, LeadsBack, directly, through}
use Rattle.term.proofs.Names.{NamesBelow, names_widen}
use Rattle.term.proofs.Seen.{seen_below}
use Rattle.term.proofs.Inside.{simplified_in}
use Rattle.term.proofs.Renewed.{result_eq}
use Rattle.term.proofs.Touched.{names_referred, referred}

pub leads_on : (t : ℕ → Term) {r y x : ℕ} → LeadsBack t r y → LeadsBack t y x → LeadsBack t r x
leads_on t back (directly n) = through n back
leads_on t back (through n on) = through n (leads_on t back on)

pub leads_down : (t : ℕ → Term) → NamesBelow t → (r x : ℕ) → LeadsBack t r x → r < x
leads_down t low r x (directly n) = referred (λ y. y < x) (t x) r (low x) n
leads_down t low r x (through {y = y} n back) = lt_trans (leads_down t low r y back) (referred (λ z. z < x) (t x) y (low x) n)

-- names followed
pub result_leads : (M limit : ℕ) (t : ℕ → Term) → NamesBelow t → (x : ℕ) → Names (λ s y. LeadsBack (seen t) y x) (result M limit t x)
result_leads M limit t low =
    from_below (λ x. Names (λ s y. LeadsBack (seen t) y x) (result M limit t x))
    (λ x earlier.
    subst (Names (λ s y. LeadsBack (seen t) y x)) (sym (result_eq M limit t low x))
    (simplified_in (λ s y. LeadsBack (seen t) y x) (result M limit t)
    (λ s y (back : LeadsBack (seen t) y x).
    names_widen {W = λ s z. LeadsBack (seen t) z x} (result M limit t y) (λ s' z (on : LeadsBack (seen t) z y). leads_on (seen t) on back)
    (earlier y (leads_down (seen t) (seen_below t low) y x back)))
    M limit t x
    (names_widen {W = λ s y. LeadsBack (seen t) y x} (seen t x) (λ s y (n : Refers (seen t x) y). directly n) (names_referred (seen t x)))))
