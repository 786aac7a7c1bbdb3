use Rattle.simplify.proofs.FreshRun.{copies, header_fits, width_fits, fresh_asks, fresh_done}
use Rattle.simplify.proofs.running.fresh.Goals as goal

pub copy-requires : goal.copy-requires
copy-requires c = search copies

pub word_width-requires-clause-header : goal.word_width-requires-clause-header
word_width-requires-clause-header c = search header_fits

pub word_width-requires-clause-width_fits : goal.word_width-requires-clause-width_fits
word_width-requires-clause-width_fits c = search width_fits

pub rows_of-requires : goal.rows_of-requires
rows_of-requires c = search header_fits

pub renew-requires : goal.renew-requires
renew-requires c = search fresh_asks

pub returns : goal.returns
returns c = search fresh_done
