use Prim.Native.Nat.{ℕ}
use lib.ListN.{replicate, length-replicate}
use native.Mathlib.Omega.{arith}
use Rattle.table.specs.Refusals.{LARGEST}
use Rattle.explanation.proofs.Explains.{explain_saves, explain_lists, explain_back, explain_short, explain_header, explain_fits}
use Rattle.explanation.proofs.explaining.explain.Goals as goal

pub copy-requires : goal.copy-requires
copy-requires c = search explain_saves

pub put_list-length-requires : goal.put_list-length-requires
put_list-length-requires c = search explain_lists

pub copy-requires-then-list-length : goal.copy-requires-then-list-length
copy-requires-then-list-length c = explain_back _ _ _ c.requires c.fresh-counts.ensures c.put_list-length.ensures (replicate LARGEST 0) (length-replicate {A = ℕ} LARGEST 0) c.copy.ensures (omega arith)

pub returns-then-list-length : goal.returns-then-list-length
returns-then-list-length c = explain_short _ _ _ c.requires c.fresh-counts.ensures c.put_list-length.ensures (replicate LARGEST 0) (length-replicate {A = ℕ} LARGEST 0) c.copy.ensures c.if-list-length.true c.copy-then-list-length.ensures (rw c.into.ensures at c.not_listed.ensures)

pub put_list-requires : goal.put_list-requires
put_list-requires c = explain_lists _ _ _ c.requires c.fresh-counts.ensures

pub rows_of-requires : goal.rows_of-requires
rows_of-requires c = search explain_header

pub returns : goal.returns
returns c = explain_fits _ _ _ c.requires c.fresh-counts.ensures c.put_list-length.ensures c.if-list-length.false c.put_list.ensures c.rows_of.ensures
