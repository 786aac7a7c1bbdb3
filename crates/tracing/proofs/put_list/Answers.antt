use borrow.Author.Rules.{rules}
use Rattle.tracing.proofs.Lists.{list_index, list_walks, list_result, list_done}
use Rattle.tracing.proofs.put_list.Goals as goal

pub index_at-j-requires : goal.index_at-j-requires
index_at-j-requires c = search list_index

pub put_walk-requires : goal.put_walk-requires
put_walk-requires c = search list_walks

pub decode-requires : goal.decode-requires
decode-requires c = search list_result

pub returns : goal.returns
returns c =
    let done =
    list_done _ _ _ _ _ c.requires c.decode-x.ensures c.source_at-source.ensures c.put_read.ensures _ c.top_of-top.ensures c.index_at-j.ensures.row c.put_walk.ensures c.decode.ensures c.put_result.ensures in
    search rules
