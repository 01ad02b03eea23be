-- What is counted and the digits of what is left are one more than the number's digits. Assumes nothing.
use native.Mathlib.Omega.{arith}
use Rattle.text.specs.Laws.Decimal.{decimal-few, digits-one, digits_more}
use Rattle.text.proofs.digit_count.Goals as goal

pub overflow_add-count : goal.overflow_add-count
overflow_add-count c = omega (arith, decimal-few c.args.number)

pub loop-rest-preserved : goal.loop-rest-preserved
loop-rest-preserved c =
    let fits = c.ranges.number in
    (omega arith, omega (arith, digits_more c.loop-rest.rest (omega arith) (omega arith)))

pub returns : goal.returns
returns c = omega (arith, digits-one c.loop-rest.rest (omega arith))
