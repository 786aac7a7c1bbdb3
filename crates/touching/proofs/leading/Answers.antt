use Rattle.touching.proofs.Marking.{leads_it, leads_none}
use Rattle.touching.proofs.leading.Goals as goal

pub returns-then-search-r : goal.returns-then-search-r
returns-then-search-r c = search leads_it

pub returns-else-search-r : goal.returns-else-search-r
returns-else-search-r c = search leads_none
