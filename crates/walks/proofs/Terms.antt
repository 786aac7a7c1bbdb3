-- The term of a row, by its kind. Assumes nothing.
use Prim.Native.Nat.{ℕ, zero, suc, ◌<◌}
use mathlib.Core.Path.{◌≡◌, refl}
use mathlib.Core.List.{List, [], ◌∷◌}
use mathlib.Core.Logic.{inl, inr}
use lib.ListN.{get_or, get_or-eq_default}
use Rattle.row.specs.declared.Row.{Row}
use Rattle.row.specs.Names.{CONST, VAR, SHIFT, SUM, DIFF, NEG, READ, FRESH, WRITE}
use Rattle.row.specs.Kinds.{StatesNone}
use Rattle.term.specs.Term.{Term, const, var, shift, sum, diff, neg, read, fresh, write, term_of}

terms : Row → List Term
terms x = const 0 ∷ const x.k ∷ var x.a x.k x.h ∷ shift x.a x.k ∷ sum x.a x.b x.k ∷ diff x.a x.b x.k ∷ neg x.a x.k ∷ read x.a x.b ∷ fresh ∷ write x.a x.b x.c ∷ []

module _ (x : Row) where
  pub term_const : x.kind ≡ CONST → term_of x ≡ const x.k
  unfolding term_of
  term_const e = rw e

  pub term_var : x.kind ≡ VAR → term_of x ≡ var x.a x.k x.h
  unfolding term_of
  term_var e = rw e

  pub term_shift : x.kind ≡ SHIFT → term_of x ≡ shift x.a x.k
  unfolding term_of
  term_shift e = rw e

  pub term_sum : x.kind ≡ SUM → term_of x ≡ sum x.a x.b x.k
  unfolding term_of
  term_sum e = rw e

  pub term_diff : x.kind ≡ DIFF → term_of x ≡ diff x.a x.b x.k
  unfolding term_of
  term_diff e = rw e

  pub term_neg : x.kind ≡ NEG → term_of x ≡ neg x.a x.k
  unfolding term_of
  term_neg e = rw e

  pub term_read : x.kind ≡ READ → term_of x ≡ read x.a x.b
  unfolding term_of
  term_read e = rw e

  pub term_fresh : x.kind ≡ FRESH → term_of x ≡ fresh
  unfolding term_of
  term_fresh e = rw e

  pub term_write : x.kind ≡ WRITE → term_of x ≡ write x.a x.b x.c
  unfolding term_of
  term_write e = rw e

  -- what is no kind
  pub term_zero : x.kind ≡ 0 → term_of x ≡ const 0
  unfolding term_of
  term_zero e = rw e

  pub term_beyond : WRITE < x.kind → term_of x ≡ const 0
  unfolding term_of terms
  term_beyond h = get_or-eq_default (terms x) (const 0) h

  pub term_none : StatesNone x.kind → term_of x ≡ const 0
  term_none (inl e) = term_zero e
  term_none (inr h) = term_beyond h

-- ---- what holds of each of a row's terms holds of its term

module _
    (P : Term → Type 0)
    (x : Row)
    (none : P (const 0))
    (p1 : P (const x.k))
    (p2 : P (var x.a x.k x.h))
    (p3 : P (shift x.a x.k))
    (p4 : P (sum x.a x.b x.k))
    (p5 : P (diff x.a x.b x.k))
    (p6 : P (neg x.a x.k))
    (p7 : P (read x.a x.b))
    (p8 : P fresh)
  where
    of_kind : (n : ℕ) → (n ≡ WRITE → P (write x.a x.b x.c)) → P (get_or (terms x) n (const 0))
    unfolding terms
    of_kind zero p9 = none
    of_kind (suc zero) p9 = p1
    of_kind (suc (suc zero)) p9 = p2
    of_kind (suc (suc (suc zero))) p9 = p3
    of_kind (suc (suc (suc (suc zero)))) p9 = p4
    of_kind (suc (suc (suc (suc (suc zero))))) p9 = p5
    of_kind (suc (suc (suc (suc (suc (suc zero)))))) p9 = p6
    of_kind (suc (suc (suc (suc (suc (suc (suc zero))))))) p9 = p7
    of_kind (suc (suc (suc (suc (suc (suc (suc (suc zero)))))))) p9 = p8
    of_kind (suc (suc (suc (suc (suc (suc (suc (suc (suc zero))))))))) p9 = p9 refl
    of_kind (suc (suc (suc (suc (suc (suc (suc (suc (suc (suc n)))))))))) p9 = none

    pub term_case : (x.kind ≡ WRITE → P (write x.a x.b x.c)) → P (term_of x)
    unfolding term_of terms
    term_case p9 = of_kind x.kind p9
