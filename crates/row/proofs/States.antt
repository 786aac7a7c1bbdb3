-- The byte of a row, where its kind is told.
use Rattle.std.proofs.Common.{ℕ, ◌≡◌, ◌≢◌, sym, ◌∙◌, Bool, true, false}
use Rattle.std.proofs.Math.Dec.{eqb}
use Rattle.std.proofs.lemmas.Bool.{eqb-true, eqb-false}
use Rattle.row.specs.declared.kind.Kind.{Kind}
use Rattle.row.specs.declared.kind.Kind.TheVariants.{Const, Var, Shift, Sum, Diff, Neg, Read, Fresh, Write}
use Rattle.row.specs.Kinds.{byte_of}
use Rattle.row.specs.Names.{CONST, VAR, SHIFT, SUM, DIFF, NEG, READ, FRESH, WRITE}

module _ {n : ℕ} {kind : Kind} (states : n ≡ byte_of kind) where
  pub states_const : kind ≡ Const → n ≡ CONST
  states_const e = rw (states, e)

  pub states_var : kind ≡ Var → n ≡ VAR
  states_var e = rw (states, e)

  pub states_shift : kind ≡ Shift → n ≡ SHIFT
  states_shift e = rw (states, e)

  pub states_sum : kind ≡ Sum → n ≡ SUM
  states_sum e = rw (states, e)

  pub states_diff : kind ≡ Diff → n ≡ DIFF
  states_diff e = rw (states, e)

  pub states_neg : kind ≡ Neg → n ≡ NEG
  states_neg e = rw (states, e)

  pub states_read : kind ≡ Read → n ≡ READ
  states_read e = rw (states, e)

  pub states_fresh : kind ≡ Fresh → n ≡ FRESH
  states_fresh e = rw (states, e)

  pub states_write : kind ≡ Write → n ≡ WRITE
  states_write e = rw (states, e)

-- what `Row::is` tells, from the bytes of the row and of the kind
module _ {n byte : ℕ} {answer : Bool} (told : answer ≡ eqb n byte) where
  pub is_of : answer ≡ true → n ≡ byte
  is_of e = eqb-true n byte (sym told ∙ e)

  pub is_other : answer ≡ false → n ≢ byte
  is_other e = eqb-false n byte (sym told ∙ e)
