use Rattle.argument.proofs.Numbers.{below_digits, from_digits}
use Rattle.argument.proofs.is_digit.Goals as goal

pub returns-then-c-ge48 : goal.returns-then-c-ge48
returns-then-c-ge48 c = search from_digits

pub returns-else-c-ge48 : goal.returns-else-c-ge48
returns-else-c-ge48 c = search below_digits
