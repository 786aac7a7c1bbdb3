use Rattle.std.proofs.Common.{◌≡◌}
use Rattle.std.proofs.lemmas.List.Edits.{sets}
use Rattle.in_bytes.specs.Numbers.{bytes}
use Rattle.in_bytes.proofs.Numbers.{behind}
use Rattle.in_bytes.proofs.put.Given as goal

abbrev pub invariant-loop-k : goal.invariant-loop-k
invariant-loop-k g l = record { written : l.t ≡ sets l.initial.t l.i (bytes l.k l.v); left : l.rest ≡ behind l.k l.v }
