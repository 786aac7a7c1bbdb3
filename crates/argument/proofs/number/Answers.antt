use native.Mathlib.Omega.{arith}
use Rattle.argument.proofs.Numbers.{digit_low, word_empty, word_long}
use Rattle.argument.proofs.Numbers.{reading_goes_on, reading_strange, reading_large, reading_ends}
use Rattle.argument.proofs.number.Goals as goal

pub returns-then-word-eq0 : goal.returns-then-word-eq0
returns-then-word-eq0 c = search word_empty

pub returns-then-word-gt-DIGITS : goal.returns-then-word-gt-DIGITS
returns-then-word-gt-DIGITS c = search word_long

pub returns-then-not-is_digit : goal.returns-then-not-is_digit
returns-then-not-is_digit c = search reading_strange

pub overflow_sub-digit : goal.overflow_sub-digit
overflow_sub-digit c = search digit_low

pub returns-in_err-tens : goal.returns-in_err-tens
returns-in_err-tens c =
    rw c.from_residual.ensures
    (reading_large _ _ _ c.loop-c.invariant c.loop-c-test.true (omega (arith, c.in_err-tens.ensures)))

pub returns-in_err-value : goal.returns-in_err-value
returns-in_err-value c =
    rw c.from_residual-in_err-value.ensures
    (reading_large _ _ _ c.loop-c.invariant c.loop-c-test.true (omega (arith, c.in_ok-tens.ensures, c.in_err-value.ensures)))

pub loop-c-preserved : goal.loop-c-preserved
loop-c-preserved c =
    reading_goes_on _ _ _ c.loop-c.invariant c.loop-c-test.true _ c.is_digit.ensures c.if-not-is_digit.false
    (omega (arith, c.in_ok-tens.ensures, c.in_ok-value.ensures)) (omega (arith, c.in_ok-tens.ensures, c.in_ok-value.ensures))

pub returns : goal.returns
returns c = search reading_ends
