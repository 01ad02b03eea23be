-- One digit is put alone; of more, those above the last are put first, and the number falls.
use mathlib.Core.Path.{◌∙◌}
use native.Mathlib.Omega.{arith}
use Rattle.text.specs.Laws.Put.{put-more, put_as}
use Rattle.text.specs.Laws.Decimal.{decimal-one, decimal-more}
use Rattle.text.proofs.+put_decimal.Goals as goal

pub returns-then-number-lt10 : goal.returns-then-number-lt10
returns-then-number-lt10 t c = put_as c.put_byte.ensures (decimal-one c.args.number c.if-number-lt10.true ∙ rw c.digit.ensures)

pub returns : goal.returns
returns t c =
    let n = c.args.number in
    put_as (put-more c.put_decimal-next.ensures c.put_byte-2.ensures)
    (decimal-more n (omega arith) (omega (arith, c.ranges.number)) ∙ rw c.digit-2.ensures)
