use Rattle.std.proofs.Common.{arith}
use Rattle.value_text.proofs.NumberLaws.{too_large}
use Rattle.value_text.proofs.numbers.magnitude.Goals as goal

pub returns-then-value-clause-value : goal.returns-then-value-clause-value
returns-then-value-clause-value c =
    too_large c.args.digits.now c.digits.byte-index c.digits.value c.digits-test.true c.digits.invariant.value_is
    (let value = rw c.from.ensures at c.in_ok-digit.ensures.value.1 in omega (arith, value))

pub returns-then-next-gt-LARGEST-clause-value : goal.returns-then-next-gt-LARGEST-clause-value
returns-then-next-gt-LARGEST-clause-value c =
    too_large c.args.digits.now c.digits.byte-index c.digits.value c.digits-test.true c.digits.invariant.value_is
    (let value = rw c.from.ensures at c.in_ok-digit.ensures.value.1 in omega (arith, value))
