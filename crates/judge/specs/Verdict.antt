-- A verdict that refuses nothing.
use Rattle.std.specs.Prelude.{Bool, eqb}
use Rattle.table.specs.Verdict.{Verdict}

unfoldable pub is_accepted : Verdict → Bool
is_accepted v = eqb v.number 0
