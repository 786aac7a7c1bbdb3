-- The first faulty row: which rows passed, which row is given, and what comes after where all pass.
use Prim.Native.Nat.{ℕ, zero, suc, ◌+◌, ◌≤◌, ◌<◌}
use native.Mathlib.Nat.{eq-or-lt_of_le}
use native.Mathlib.Omega.{arith}
use mathlib.Core.Path.{◌≡◌, refl, sym, ap, subst, ◌∙◌}
use mathlib.Core.Logic.{◌⊎◌, inl, inr, ⊎_elim}
use lib.Dec.{eqb}
use borrow.Author.Tests.{eqb-true, eqb-false, ne_eqb}
use Rattle.basis.proofs.Pick.{test_case}
use Rattle.table.specs.Verdict.{Verdict}
use Rattle.table.specs.Refusals.{refuse, accepted, given, first_faulty}

-- a number of 0 passes on, any other refuses
pub given_passes : (k r : ℕ) (after : Verdict) → k ≡ 0 → given k r after ≡ after
unfolding given
given_passes k r after e = rw e

pub given_refuses : (k r : ℕ) (after : Verdict) → (k ≡ 0 → ⊥) → given k r after ≡ refuse k r
unfolding given
given_refuses k r after some = rw (ne_eqb k 0 some)

pub refuse_number : (k l r s : ℕ) → refuse k r ≡ refuse l s → k ≡ l
unfolding refuse
refuse_number k l r s e = ap (λ (v : Verdict). v.number) e

pub refuse_row : (k l r s : ℕ) → refuse k r ≡ refuse l s → r ≡ s
unfolding refuse
refuse_row k l r s e = ap (λ (v : Verdict). v.row) e

-- every row of `left` from r on passes
abbrev pub AllPass : (ℕ → ℕ) → ℕ → ℕ → Type 0
AllPass fault left r = (q : ℕ) → r ≤ q → q < r + left → fault q ≡ 0

-- row q of them is the first that does not
pub record FirstFault (fault : ℕ → ℕ) (left r q : ℕ) : Type 0 where
  pub low : r ≤ q
  pub high : q < r + left
  pub before : (p : ℕ) → r ≤ p → p < q → fault p ≡ 0
  pub fails : fault q ≡ 0 → ⊥

module _ (fault : ℕ → ℕ) where
  pub all_pass_after : (left r : ℕ) (after : Verdict) → AllPass fault left r → first_faulty fault left r after ≡ after
  unfolding first_faulty
  all_pass_after zero r after pass = refl
  all_pass_after (suc left) r after pass =
      given_passes (fault r) r (first_faulty fault left (suc r) after) (pass r (omega arith) (omega arith))
      ∙ all_pass_after left (suc r) after (λ q low high. pass q (omega arith) (omega arith))

  pub first_fault_given : (left r q : ℕ) (after : Verdict) → FirstFault fault left r q → first_faulty fault left r after ≡ refuse (fault q) q
  unfolding first_faulty
  first_fault_given zero r q after h = absurd (let low : r ≤ q = h.low in let high : q < r + 0 = h.high in omega arith)
  first_fault_given (suc left) r q after h =
      ⊎_elim
      (λ (e : r ≡ q).
      given_refuses (fault r) r (first_faulty fault left (suc r) after) (λ z. h.fails (subst (λ (i : ℕ). fault i ≡ 0) e z))
      ∙ ap (λ (i : ℕ). refuse (fault i) i) e)
      (λ (l : r < q).
      given_passes (fault r) r (first_faulty fault left (suc r) after) (h.before r (omega arith) l)
      ∙ first_fault_given left (suc r) q after (record {
        low = l;
        high = let high : q < r + suc left = h.high in omega arith;
        before = λ p low high. h.before p (omega arith) high;
        fails = h.fails;
      }))
      (eq-or-lt_of_le h.low)

  -- either all pass or there is a first that does not
  pub scanned : (left r : ℕ) → AllPass fault left r ⊎ ((q : ℕ) × FirstFault fault left r q)
  scanned zero r = inl (λ q low high. absurd (omega arith))
  scanned (suc left) r =
      test_case (eqb (fault r) 0)
      (λ e.
      let none : fault r ≡ 0 = eqb-true (fault r) 0 e in
      ⊎_elim
      (λ (pass : AllPass fault left (suc r)). inl (λ q low high.
      ⊎_elim (λ (s : r ≡ q). subst (λ (i : ℕ). fault i ≡ 0) s none) (λ (l : r < q). pass q l (omega arith)) (eq-or-lt_of_le low)))
      (λ (h : (q : ℕ) × FirstFault fault left (suc r) q). inr (
        h.0,
        record {
          low = let low : suc r ≤ h.0 = h.1.low in omega arith;
          high = let high : h.0 < suc r + left = h.1.high in omega arith;
          before = λ p low high.
              ⊎_elim (λ (s : r ≡ p). subst (λ (i : ℕ). fault i ≡ 0) s none) (λ (l : r < p). h.1.before p l high) (eq-or-lt_of_le low);
          fails = h.1.fails;
        },
      ))
      (scanned left (suc r)))
      (λ e. inr (
        r,
        record {
          low = omega arith;
          high = omega arith;
          before = λ p low high. absurd (omega arith);
          fails = eqb-false (fault r) 0 e;
        },
      ))

  -- accepted: all passed
  pub accepted_all : (left r : ℕ) → first_faulty fault left r accepted ≡ accepted → AllPass fault left r
  unfolding accepted
  accepted_all left r e =
      ⊎_elim
      (λ (pass : AllPass fault left r). pass)
      (λ (h : (q : ℕ) × FirstFault fault left r q).
      absurd (h.1.fails (refuse_number (fault h.0) 0 h.0 0 (sym (first_fault_given left r h.0 accepted h.1) ∙ e))))
      (scanned left r)

  -- refused: what comes after does not matter
  pub refused_same : (left r : ℕ) (after : Verdict) → (first_faulty fault left r accepted ≡ accepted → ⊥) → first_faulty fault left r after ≡ first_faulty fault left r accepted
  refused_same left r after refused =
      ⊎_elim
      (λ (pass : AllPass fault left r). absurd (refused (all_pass_after left r accepted pass)))
      (λ (h : (q : ℕ) × FirstFault fault left r q). first_fault_given left r h.0 after h.1 ∙ sym (first_fault_given left r h.0 accepted h.1))
      (scanned left r)
