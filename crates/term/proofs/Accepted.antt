-- What an accepted table guarantees over its lookup.
use Prim.Native.Nat.{ℕ, ◌^◌, ◌<◌}
use native.Mathlib.Decide.{dec_lt, ℕ_discrete}
use native.Mathlib.Omega.{arith}
use mathlib.Core.Path.{◌≡◌, refl, sym, ap, ◌∙◌, subst}
use mathlib.Core.Bool.{true, false}
use mathlib.Core.Logic.{dite}
use mathlib.Core.List.{List}
use lib.Dec.{lit<}
use lib.ListN.{length}
use lib.Pow.{pow_pos}
use Rattle.row.specs.declared.Row.{Row}
use Rattle.row.specs.Names.{place}
use Rattle.row.specs.Bytes.{row, row_at}
use Rattle.table.specs.declared.Uses.{Uses}
use Rattle.table.specs.declared.Sort.{Sort}
use Rattle.table.specs.declared.Sort.TheVariants.{Word, Array}
use Rattle.table.specs.declared.Use.TheVariants.{Refers}
use Rattle.table.specs.Uses.{is_sort, sort_of, is_reference, uses_of}
use Rattle.table.specs.Refusals.{width, rows, use_at, reference}
use Rattle.table.specs.Accepted.{GoodRow, Accepted}
use Rattle.names.specs.First.{name_at}
use Rattle.names.proofs.First.{nameless_first}
use Rattle.term.specs.Term.{Term, const, term_of, row_of, stated_by, is_array}
use Rattle.term.specs.Seen.{first_row}
use Rattle.term.specs.WellFormed.{Fits, Names, Below, WellFormed}
use Rattle.term.specs.Bytes.{look}
use Rattle.term.proofs.Rows.{kind_case, good_tidy, row_term, sort_term, one_variable}
use Rattle.term.proofs.Seen.{first_row_name}
use Rattle.term.proofs.Looked.{look_past, look_states, first_row_is}

word_at : (t : List ℕ) (y : ℕ) → sort_of (row_at t y).kind ≡ Word → is_array (look t y) ≡ false
unfolding look is_sort
word_at t y e = sort_term (row_at t y) ∙ ap (is_sort Array) e

array_at : (t : List ℕ) (y : ℕ) → sort_of (row_at t y).kind ≡ Array → is_array (look t y) ≡ true
unfolding look is_sort
array_at t y e = sort_term (row_at t y) ∙ ap (is_sort Array) e

-- a use tells its sort
refers_sort : {s other : Sort} → Refers s ≡ Refers other → s ≡ other
refers_sort e = cc

-- what is said of row r, which is the term u
record Good (t : List ℕ) (r : ℕ) (u : Term) : Type 0 where
  fits : Fits (2 ^ width t) u
  names : Names (Below (look t) r) u

-- a reference field that is used, as a word or as an array
module _ (t : List ℕ) (r : ℕ) (x : Row) (u : Uses) (good : GoodRow t r x u) (f : ℕ) (l : f < 3) where
  word_field : use_at u f ≡ Refers Word → Below (look t) r false (reference x f)
  unfolding is_reference
  word_field e = record { below = good.below f l (ap is_reference e); sort = word_at t (reference x f) (refers_sort (good.sort f l (ap is_reference e) ∙ e)) }

  array_field : use_at u f ≡ Refers Array → Below (look t) r true (reference x f)
  unfolding is_reference
  array_field e = record { below = good.below f l (ap is_reference e); sort = array_at t (reference x f) (refers_sort (good.sort f l (ap is_reference e) ∙ e)) }

good_term : (t : List ℕ) (r : ℕ) (x : Row) → GoodRow t r x (uses_of x.kind) → Good t r (term_of x)
unfolding term_of uses_of use_at reference
good_term t r x good =
    kind_case Told
    (λ a b c k h g. record { fits = g.k_word refl; names = tt })
    (λ a b c k h g. record { fits = (g.bounds refl, g.h_word refl); names = tt })
    (λ a b c k h g. record { fits = g.k_word refl; names = word_field t r _ _ g 0 (lit< tt) refl })
    (λ a b c k h g. record { fits = g.k_word refl; names = (word_field t r _ _ g 0 (lit< tt) refl, word_field t r _ _ g 1 (lit< tt) refl) })
    (λ a b c k h g. record { fits = g.k_word refl; names = (word_field t r _ _ g 0 (lit< tt) refl, word_field t r _ _ g 1 (lit< tt) refl) })
    (λ a b c k h g. record { fits = g.k_word refl; names = word_field t r _ _ g 0 (lit< tt) refl })
    (λ a b c k h g. record { fits = tt; names = (array_field t r _ _ g 0 (lit< tt) refl, word_field t r _ _ g 1 (lit< tt) refl) })
    (λ a b c k h g. record { fits = tt; names = tt })
    (λ a b c k h g. record {
      fits = tt;
      names = (
        array_field t r _ _ g 0 (lit< tt) refl,
        word_field t r _ _ g 1 (lit< tt) refl,
        word_field t r _ _ g 2 (lit< tt) refl,
      );
    })
    x.kind good.kind_low good.kind_high x.a x.b x.c x.k x.h good
  where
    Told : ℕ → Type 0
    Told kind = (a b c k h : ℕ) → GoodRow t r (row kind a b c k h) (uses_of kind) → Good t r (term_of (row kind a b c k h))

module _ (t : List ℕ) (ok : Accepted t) where
  past : (x : ℕ) → (x < rows t → ⊥) → look t x ≡ const 0
  unfolding place
  past x l = look_past t x (let size : length t ≡ place (rows t) = ok.head.size in omega arith)

  good_look : (x : ℕ) → Good t x (look t x)
  unfolding look
  good_look x =
      dite (dec_lt x (rows t))
      (λ (l : x < rows t). good_term t x (row_at t x) (ok.row x l))
      (λ (l : x < rows t → ⊥). subst (Good t x) (sym (past x l)) (record { fits = pow_pos (width t); names = tt }))

  pub accepted_formed : WellFormed (2 ^ width t) (look t)
  accepted_formed = record { fits = λ x. (good_look x).fits; names = λ x. (good_look x).names }

  nameless_one : (x : ℕ) → stated_by (look t x) ≡ 0 → look t x ≡ look t (first_row (look t) x)
  unfolding first_row
  nameless_one x e = ap (look t) (sym (nameless_first (λ y. stated_by (look t y)) x e))

  -- a row is the term that the first of its name is
  pub accepted_one : (x : ℕ) → look t x ≡ look t (first_row (look t) x)
  unfolding look stated_by name_at
  accepted_one x =
      dite (dec_lt x (rows t))
      (λ (l : x < rows t).
      dite (ℕ_discrete (stated_by (look t x)) 0) (nameless_one x)
      (λ (named : stated_by (look t x) ≡ 0 → ⊥).
      one_variable (row_at t x) (row_at t (first_row (look t) x)) (λ e. named (look_states t x ∙ e))
      (sym (look_states t x) ∙ sym (first_row_name (look t) x) ∙ look_states t (first_row (look t) x))
      (rw (first_row_is t x) (ok.row x l).agrees)))
      (λ (l : x < rows t → ⊥). nameless_one x (ap stated_by (past x l)))

  -- its rows are those of its terms
  pub accepted_row : (x : ℕ) → x < rows t → row_of (look t x) ≡ row_at t x
  unfolding look
  accepted_row x l = row_term (row_at t x) (good_tidy t x (row_at t x) (ok.row x l))
