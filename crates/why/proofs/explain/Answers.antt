use Rattle.std.proofs.Common.{sym, length-take-le}
use Rattle.explanation.proofs.Fits.{list_fits}
use Rattle.why.proofs.explain.Goals as goal

pub slice_bounds-list-end : goal.slice_bounds-list-end
slice_bounds-list-end g c = search list_fits

pub slice_bounds-print-end : goal.slice_bounds-print-end
slice_bounds-print-end g c = sym (length-take-le _ _ (search list_fits))
