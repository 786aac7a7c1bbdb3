use Rattle.stezkoun.proofs.Tells.{unknown_number, same_number, apart_number}
use Rattle.stezkoun.proofs.relation_number.Goals as goal

pub returns-in-Unknown : goal.returns-in-Unknown
returns-in-Unknown c = unknown_number c.in-Unknown.is

pub returns-in-Same : goal.returns-in-Same
returns-in-Same c = same_number c.in-Same.is

pub returns-in-Apart : goal.returns-in-Apart
returns-in-Apart c = apart_number c.in-Apart.is
