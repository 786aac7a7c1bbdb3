use borrow.Author.Rules.{rules}
use Rattle.row.proofs.States.{is_of, is_other}
use Rattle.tracing.proofs.Steps.{tell_decodes, tell_sources, tell_spent, tell_ends, tell_compares, tell_numbered, tell_finds, tell_stops, tell_passes}
use Rattle.tracing.proofs.put_walk.Goals as goal

pub decode-x-requires : goal.decode-x-requires
decode-x-requires c = search tell_decodes

pub returns-then-not-is : goal.returns-then-not-is
returns-then-not-is c = search (tell_ends, is_other c.is.ensures c.if-not-is.true)

pub reason-why-requires : goal.reason-why-requires
reason-why-requires c = search (tell_compares, is_of c.is.ensures c.if-not-is.false)

pub source_at-requires : goal.source_at-requires
source_at-requires c = search tell_sources

pub put_store-requires-clause-numbered : goal.put_store-requires-clause-numbered
put_store-requires-clause-numbered c = search (tell_numbered, rules, is_of c.is.ensures c.if-not-is.false)

pub returns-in-Same : goal.returns-in-Same
returns-in-Same c = search (tell_finds, is_of c.is.ensures c.if-not-is.false)

pub returns-in-Unknown : goal.returns-in-Unknown
returns-in-Unknown c = search (tell_stops, is_of c.is.ensures c.if-not-is.false)

pub loop-compared-preserved : goal.loop-compared-preserved
loop-compared-preserved c = search (tell_passes, is_of c.is.ensures c.if-not-is.false)

pub returns : goal.returns
returns c = search tell_spent
