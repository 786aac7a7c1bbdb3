use Rattle.show.proofs.Limits.{none_given, miscounted, misnamed, limit_given}
use Rattle.show.proofs.limit.limit_from.Goals as goal

pub returns-then-count-eq1 : goal.returns-then-count-eq1
returns-then-count-eq1 c = search none_given

pub returns-then-count-ne3 : goal.returns-then-count-ne3
returns-then-count-ne3 c = search miscounted

pub returns-then-not-is_word : goal.returns-then-not-is_word
returns-then-not-is_word c = search misnamed

pub returns : goal.returns
returns c = search limit_given
