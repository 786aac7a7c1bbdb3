-- `put_decimal` calls itself: the measure is the number, which falls to its tenth.
use Rattle.text.proofs.Text.+put_decimal.Given as goal

abbrev pub decreases-put_decimal : goal.decreases-put_decimal
decreases-put_decimal l = l.v
