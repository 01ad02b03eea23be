-- An exact number may be converted (`exact-in`), and its quotient by a divisor above zero is no NaN (`quotient-number`).
use mir.Syntax.{w32}
use mir.Facts.{to_z-of_z}
use Rattle.floats.specs.Laws.Quotient.{quotient-number}
use Rattle.floats.proofs.quotient_bits.Goals as goal

pub float_to_bits-result : goal.float_to_bits-result
float_to_bits-result c =
    let a = c in
    rw (to_z-of_z {w = w32} a.ranges.number) (quotient-number a.args.number a.args.divisor a.requires.0 a.requires.1)
