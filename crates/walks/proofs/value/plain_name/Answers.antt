use Rattle.walks.proofs.Bases.{plain_other, plain_moved, plain_named}
use Rattle.walks.proofs.value.plain_name.Goals as goal

pub returns-then-v : goal.returns-then-v
returns-then-v c = search plain_other

pub returns-then-v-ne0 : goal.returns-then-v-ne0
returns-then-v-ne0 c = search plain_moved

pub returns : goal.returns
returns c = search plain_named
