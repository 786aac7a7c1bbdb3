use Rattle.text.proofs.Puts.{decimal_short, decimal_longer}
use Rattle.text.proofs.Text.+put_decimal.Goals as goal

pub returns-then-v-lt10 : goal.returns-then-v-lt10
returns-then-v-lt10 t c = search decimal_short

pub returns : goal.returns
returns t c = search decimal_longer
