use Rattle.walks.proofs.Relations.{bases_asked, reason_same, reason_offsets, reason_ranges, reason_undecided}
use Rattle.walks.proofs.relation.reason.Goals as goal

pub shares_base-requires : goal.shares_base-requires
shares_base-requires c = search bases_asked

pub returns-then-v-u : goal.returns-then-v-u
returns-then-v-u c = search reason_same

pub returns-then-shares_base : goal.returns-then-shares_base
returns-then-shares_base c = search reason_offsets

pub returns-then-disjoint : goal.returns-then-disjoint
returns-then-disjoint c = search reason_ranges

pub returns : goal.returns
returns c = search reason_undecided
