-- A list looks only at rows that stand, and of ranges only at those of words: rows and ranges that agree there give the same list.
use Prim.Native.Nat.{ℕ, zero, suc, ◌<◌}
use native.Mathlib.Omega.{arith}
use mathlib.Core.Path.{◌≡◌, refl, sym, ap, ◌∙◌}
use mathlib.Core.Bool.{false}
use mathlib.Core.List.{List, ◌++◌}
use Rattle.range.specs.declared.Range.{Range}
use Rattle.walks.proofs.Stores.{NoStore}
use Rattle.term.specs.declared.Reason.{Reason}
use Rattle.term.specs.declared.Reason.TheVariants.{SamePlace, Offsets, Separate, Undecided}
use Rattle.term.specs.Term.{Term, const, var, shift, sum, diff, neg, read, fresh, write, is_array}
use Rattle.term.specs.WellFormed.{Names, Below}
use Rattle.term.specs.Walk.{walk}
use Rattle.term.specs.Reason.{reason, known_by}
use Rattle.term.proofs.Reasons.{reason_agree}
use Rattle.listing.specs.List.{store_line, walk_lines}
use Rattle.tracing.proofs.Steps.{none_left, no_store_lines, lines_found, lines_stopped, lines_passed}

-- f names rows below each row, as what they are, and f' and g' agree with f and g below n
module _
    (M n : ℕ)
    (f f' : ℕ → Term)
    (g g' : ℕ → Range)
    (source : ℕ → ℕ)
    (names : (x : ℕ) → x < n → Names (Below f x) (f x))
    (rows : (x : ℕ) → x < n → f x ≡ f' x)
    (ranges : (x : ℕ) → x < n → is_array (f x) ≡ false → g x ≡ g' x)
    (i : ℕ)
    (index : i < n)
    (word : is_array (f i) ≡ false)
  where
    abbrev Alike : ℕ → ℕ → Type 0
    Alike left m = walk_lines M f g source i (walk f g i left m) ≡ walk_lines M f' g' source i (walk f' g' i left m)

    -- at a row that is no store
    alike_none : (left m : ℕ) → m < n → NoStore (f m) → Alike (suc left) m
    alike_none left m l h = no_store_lines M f g source i left m h ∙ sym (no_store_lines M f' g' source i left m (rw (rows m l) at h))

    -- at a store
    module _ (left m a b c : ℕ) (l : m < n) (is : f m ≡ write a b c) (onward : Alike left a) where
      is' : f' m ≡ write a b c
      is' = sym (rows m l) ∙ is

      named : Names (Below f m) (write a b c)
      named = rw is at (names m l)

      told : reason f g b i ≡ reason f' g' b i
      told =
          let low : b < n = omega (arith, named.1.below) in
          reason_agree f f' g g' b i (rows b low) (rows i index) (ranges b low named.1.sort) (ranges i index word)

      alike_by : (why : Reason) → why ≡ reason f g b i → Alike (suc left) m
      unfolding known_by
      alike_by SamePlace e =
          lines_found M f g source i left m a b c is SamePlace e refl ∙ sym (lines_found M f' g' source i left m a b c is' SamePlace (e ∙ told) refl)
      alike_by (Offsets p q) e =
          lines_passed M f g source i left m a b c is (Offsets p q) e refl ∙
          ap (λ (xs : List ℕ). store_line M (source m) i (record { store = m; index = b; why = Offsets p q }) ++ xs) onward ∙
          sym (lines_passed M f' g' source i left m a b c is' (Offsets p q) (e ∙ told) refl)
      alike_by (Separate spans) e =
          lines_passed M f g source i left m a b c is (Separate spans) e refl ∙
          ap (λ (xs : List ℕ). store_line M (source m) i (record { store = m; index = b; why = Separate spans }) ++ xs) onward ∙
          sym (lines_passed M f' g' source i left m a b c is' (Separate spans) (e ∙ told) refl)
      alike_by Undecided e =
          lines_stopped M f g source i left m a b c is Undecided e refl ∙ sym (lines_stopped M f' g' source i left m a b c is' Undecided (e ∙ told) refl)

    alike_at : (left m : ℕ) → m < n → ((a : ℕ) → a < n → Alike left a) → (t : Term) → f m ≡ t → Alike (suc left) m
    alike_at left m l onward (const k) e = alike_none left m l (rw e tt)
    alike_at left m l onward (var name k h) e = alike_none left m l (rw e tt)
    alike_at left m l onward (shift a k) e = alike_none left m l (rw e tt)
    alike_at left m l onward (sum a b k) e = alike_none left m l (rw e tt)
    alike_at left m l onward (diff a b k) e = alike_none left m l (rw e tt)
    alike_at left m l onward (neg a k) e = alike_none left m l (rw e tt)
    alike_at left m l onward (read a b) e = alike_none left m l (rw e tt)
    alike_at left m l onward fresh e = alike_none left m l (rw e tt)
    alike_at left m l onward (write a b c) e =
        let named : Names (Below f m) (write a b c) = rw e at (names m l) in
        alike_by left m a b c l e (onward a (omega (arith, named.0.below))) (reason f g b i) refl

    pub lines_local : (left m : ℕ) → m < n → walk_lines M f g source i (walk f g i left m) ≡ walk_lines M f' g' source i (walk f' g' i left m)
    lines_local zero m l = none_left M f g source i m ∙ sym (none_left M f' g' source i m)
    lines_local (suc left) m l = alike_at left m l (lines_local left) (f m) refl
