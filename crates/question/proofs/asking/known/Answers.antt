use mathlib.Core.Path.{refl}
use Rattle.table.proofs.Told.{fault_some}
use Rattle.question.proofs.Answered.{comparison_on, ask_pair, ask_there, ask_words, ask_long, ask_header, ask_width, ask_two, ask_done}
use Rattle.question.proofs.asking.known.Goals as goal

pub returns-in_err-pair : goal.returns-in_err-pair
returns-in_err-pair c =
    comparison_on c.from_residual.result _ c.from_residual.ensures.1 (ask_pair _ _ _ _ c.in_err-pair.ensures (fault_some _) refl)

pub words-requires : goal.words-requires
words-requires c = ask_there _ _ _ _ c.in_ok-pair.ensures refl

pub returns-in_err-words : goal.returns-in_err-words
returns-in_err-words c =
    comparison_on c.from_residual-in_err-words.result _ c.from_residual-in_err-words.ensures.1
    (ask_words _ _ _ _ c.in_ok-pair.ensures refl c.in_err-words.ensures (fault_some _) refl)

pub slice_bounds-why-end : goal.slice_bounds-why-end
slice_bounds-why-end c = ask_long _ _ _ _ c.in_ok-pair.ensures refl c.in_ok-words.ensures refl

pub word_width-requires-clause-header : goal.word_width-requires-clause-header
word_width-requires-clause-header c = ask_header _ _ _ _ c.in_ok-pair.ensures refl c.in_ok-words.ensures refl

pub word_width-requires-clause-width_fits : goal.word_width-requires-clause-width_fits
word_width-requires-clause-width_fits c = ask_width _ _ _ _ c.in_ok-pair.ensures refl c.in_ok-words.ensures refl

pub why-requires : goal.why-requires
why-requires c = ask_two _ _ _ _ c.in_ok-pair.ensures refl c.in_ok-words.ensures refl c.word_width.ensures

pub returns : goal.returns
returns c = ask_done _ _ _ _ c.in_ok-pair.ensures refl c.in_ok-words.ensures refl c.word_width.ensures c.why.ensures refl
