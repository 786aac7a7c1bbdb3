use native.Mathlib.Omega.{arith}
use Rattle.simplify.proofs.Patches.{patch_header, patch_width, patch_marks, patch_asks, patch_done}
use Rattle.simplify.proofs.editing.patch.Goals as goal

pub rows_of-n-requires : goal.rows_of-n-requires
rows_of-n-requires c = search patch_header

pub mark_touched-touched-requires : goal.mark_touched-touched-requires
mark_touched-touched-requires c = search patch_marks

pub word_width-requires-clause-header : goal.word_width-requires-clause-header
word_width-requires-clause-header c = search patch_header

pub word_width-requires-clause-width_fits : goal.word_width-requires-clause-width_fits
word_width-requires-clause-width_fits c = search patch_width

pub renew-counts-requires : goal.renew-counts-requires
renew-counts-requires c = rw c.new-store.ensures (patch_asks _ _ _ _ _ c.requires c.rows_of-n.ensures c.mark_touched-touched.ensures c.word_width.ensures (omega arith))

pub returns : goal.returns
returns c = search patch_done
