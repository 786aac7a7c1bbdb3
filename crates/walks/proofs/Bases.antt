-- What the code tells of values is what document 01 says of bases and offsets. Assumes nothing.
use Prim.Native.Nat.{ℕ}
use mathlib.Core.Path.{◌≡◌}
use mathlib.Core.Bool.{false}
use borrow.Author.Tests.{eq-eqb, ne_eqb}
use lib.Dec.{eqb}
use Rattle.row.specs.Names.{SHIFT}
use Rattle.walks.specs.declared.value.Value.{Value}
use Rattle.walks.specs.Value.{value, agree, opened_from, plain_from}

-- ---- the ways out of the code

module _ (u v : Value) where
  pub agree_kinds : (u.kind ≡ v.kind → ⊥) → false ≡ agree u v
  unfolding agree
  agree_kinds h = rw (ne_eqb u.kind v.kind h)

  pub agree_left : u.kind ≡ v.kind → (u.a ≡ v.a → ⊥) → false ≡ agree u v
  unfolding agree
  agree_left e h = rw (eq-eqb u.kind v.kind e, ne_eqb u.a v.a h)

  pub agree_right : u.kind ≡ v.kind → u.a ≡ v.a → eqb u.b v.b ≡ agree u v
  unfolding agree
  agree_right e q = rw (eq-eqb u.kind v.kind e, eq-eqb u.a v.a q)

module _ (r : ℕ) (v o : Value) where
  pub opened_one : v.kind ≡ SHIFT → v ≡ opened_from r v
  unfolding opened_from
  opened_one e = rw (eq-eqb v.kind SHIFT e)

  pub opened_self : (v.kind ≡ SHIFT → ⊥) → o ≡ value SHIFT r 0 0 → o ≡ opened_from r v
  unfolding opened_from
  opened_self h e = rw (ne_eqb v.kind SHIFT h) e

module _ (r : ℕ) (v : Value) where
  pub plain_other : (v.kind ≡ SHIFT → ⊥) → r ≡ plain_from r v
  unfolding plain_from
  plain_other h = rw (ne_eqb v.kind SHIFT h)

  pub plain_moved : v.kind ≡ SHIFT → (v.k ≡ 0 → ⊥) → r ≡ plain_from r v
  unfolding plain_from
  plain_moved e h = rw (eq-eqb v.kind SHIFT e, ne_eqb v.k 0 h)

  pub plain_named : v.kind ≡ SHIFT → v.k ≡ 0 → v.a ≡ plain_from r v
  unfolding plain_from
  plain_named e q = rw (eq-eqb v.kind SHIFT e, eq-eqb v.k 0 q)
