-- Each arm is the definition's case.
use mathlib.Core.Path.{ap}
use Rattle.text.specs.Laws.Put.{put_as}
use Rattle.lines.specs.declared.Notation.{Notation}
use Rattle.lines.specs.Decimals.{float_in}
use Rattle.lines.specs.Lines.{line}
use Rattle.lines.proofs.put_in.Goals as goal

pub returns-in-Decimal : goal.returns-in-Decimal
unfolding float_in
returns-in-Decimal c =
    let a = c.args in
    put_as c.put_float.ensures (ap (λ (n : Notation). line (float_in n) a.bits) c.in-Decimal.is)

pub returns-in-Hexadecimal : goal.returns-in-Hexadecimal
unfolding float_in
returns-in-Hexadecimal c =
    let a = c.args in
    put_as c.put_bits.ensures (ap (λ (n : Notation). line (float_in n) a.bits) c.in-Hexadecimal.is)
