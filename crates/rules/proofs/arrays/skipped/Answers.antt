use Rattle.row.proofs.States.{is_of, is_other}
use Rattle.walks.proofs.Reach.{row_room}
use Rattle.walks.proofs.Stores.{store_compared}
use Rattle.rules.proofs.ArrayRules.{skip_ends, skip_same, skip_apart, skip_unknown}
use Rattle.rules.proofs.arrays.skipped.Goals as goal

pub decode-x-requires : goal.decode-x-requires
decode-x-requires c = search row_room

pub returns-then-not-is : goal.returns-then-not-is
returns-then-not-is c = search (skip_ends, is_other c.is.ensures c.if-not-is.true)

pub related-requires : goal.related-requires
related-requires c = search (store_compared, is_of c.is.ensures c.if-not-is.false)

pub returns-in-Same : goal.returns-in-Same
returns-in-Same c = search (skip_same, is_of c.is.ensures c.if-not-is.false)

pub returns-in-Apart : goal.returns-in-Apart
returns-in-Apart c = search (skip_apart, is_of c.is.ensures c.if-not-is.false)

pub returns-in-Unknown : goal.returns-in-Unknown
returns-in-Unknown c = search (skip_unknown, is_of c.is.ensures c.if-not-is.false)
