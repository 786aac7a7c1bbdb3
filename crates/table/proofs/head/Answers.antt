use Rattle.table.proofs.Heads.{head_0, head_1, head_2, head_3, head_4, head_5}
use Rattle.table.proofs.head.Goals as goal

pub returns-then-t-lt-HEADER : goal.returns-then-t-lt-HEADER
returns-then-t-lt-HEADER c = search head_1

pub returns-then-head_wrong : goal.returns-then-head_wrong
returns-then-head_wrong c = search head_2

pub returns-then-w : goal.returns-then-w
returns-then-w c = search head_3

pub returns-then-n-gt-MOST : goal.returns-then-n-gt-MOST
returns-then-n-gt-MOST c = search head_4

pub returns-then-t-place : goal.returns-then-t-place
returns-then-t-place c = search head_5

pub returns : goal.returns
returns c = search head_0
