use Rattle.std.proofs.Common.{rules, ◌≡◌, sum, map, arith}
use Rattle.std.proofs.lemmas.Grind.{common_steps}
use Rattle.std.proofs.lemmas.Iterator.{YieldsList-from_slice}
use Rattle.std.proofs.lemmas.Iterator.Adapters.{fits_from_length, at_most_from_yields_List}
use borrow.Author.Tests.{tests}
use lib.Count.{ones}
use Rattle.marks.proofs.Marking.{ones_told, rows_told}
use Rattle.marks.proofs.Marks.count.Goals as goal

pub sum-requires-clause-fits : goal.sum-requires-clause-fits
sum-requires-clause-fits c =
    fits_from_length _ _ 16 _ (at_most_from_yields_List (YieldsList-from_slice c.iter.result.rest.now cc) (Prim.grind (arith, common_steps))) c.map.ensures.closure (omega arith) (λ x r q k. search (rules, tests))

pub returns : goal.returns
returns c =
    let e : c.sum.result ≡ sum (map ones c.self.inside.words) = search rules in
    rw (← c.self.view_is) (record { ones = ones_told _ c.self.invariant e; rows = rows_told _ c.self.invariant e })
