-- Every well-formed table in which the rows of one name are one term has a permitted choice, so demand 2 is not empty.
use Prim.Native.Nat.{ℕ, ◌<◌}
use mathlib.Core.Path.{◌≡◌, subst}
use native.Mathlib.Omega.{arith}
use Rattle.term.specs.Term.{Term, const, var, shift, sum, diff, neg, read, fresh, write}
use Rattle.term.specs.Seen.{first_row}
use Rattle.term.specs.WellFormed.{Fits, WellFormed}
use Rattle.term.proofs.Seen.{first_row_shared}
use Rattle.meaning.specs.Meaning.{Choice, Permitted}

-- the lower bound of a VAR
unfoldable pub lowest : Term → ℕ
lowest (const k) = 0
lowest (var name k h) = k
lowest (shift a k) = 0
lowest (sum a b k) = 0
lowest (diff a b k) = 0
lowest (neg a k) = 0
lowest (read a b) = 0
lowest fresh = 0
lowest (write a b c) = 0

-- each VAR at its lower bound, each FRESH all zeros
unfoldable pub least : (ℕ → Term) → Choice
least t = record { word = λ x. lowest (t x); array = λ x i. 0 }

pub choice_exists : (M : ℕ) → 0 < M → (t : ℕ → Term) → WellFormed M t → ((x : ℕ) → t x ≡ t (first_row t x)) → Permitted M t (least t)
unfolding least lowest
choice_exists M pos t formed one =
    record {
      bounds = λ x name k h e.
          rw e
          (let fits : Fits M (var name k h) = subst (Fits M) e (formed.fits x) in omega arith);
      words = λ x i e. omega arith;
      one_value = λ x y named same. cc (one x, one y, first_row_shared t x y named same);
    }
