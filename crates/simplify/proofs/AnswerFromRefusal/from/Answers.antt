use Rattle.simplify.proofs.AnswerFromRefusal.from.Goals as goal

pub returns : goal.returns
returns c = rw c.number.ensures at c.refused.ensures
