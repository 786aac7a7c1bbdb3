-- The kinds of rows, and the bytes that state them.
use Rattle.std.specs.Prelude.{ℕ, ◌<◌, ◌≡◌, ◌⊎◌, Option, MatchOption}
use Rattle.row.specs.Names.{CONST, VAR, SHIFT, SUM, DIFF, NEG, READ, FRESH, WRITE}
use Rattle.row.specs.declared.kind.Kind.{Kind}
use Rattle.row.specs.declared.kind.Kind.TheVariants.{Const, Var, Shift, Sum, Diff, Neg, Read, Fresh, Write}

abbrev pub byte_of : Kind → ℕ
byte_of Const = CONST
byte_of Var = VAR
byte_of Shift = SHIFT
byte_of Sum = SUM
byte_of Diff = DIFF
byte_of Neg = NEG
byte_of Read = READ
byte_of Fresh = FRESH
byte_of Write = WRITE

-- a byte that states none
abbrev pub StatesNone : ℕ → Type 0
StatesNone byte = (byte ≡ 0) ⊎ (WRITE < byte)

-- what a byte states: a kind, or none
abbrev pub Stated : ℕ → Option Kind → Type 0
Stated byte found = MatchOption found (StatesNone byte) (λ kind. byte ≡ byte_of kind)
