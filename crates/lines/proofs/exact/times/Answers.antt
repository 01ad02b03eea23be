-- The digits passed are those of the product; a carry stays small.
use native.Mathlib.Omega.{arith}
use Rattle.lines.specs.Laws.Figures.{multiplied-more, multiplied-done}
use Rattle.lines.proofs.exact.times.Goals as goal

pub loop-digit-preserved : goal.loop-digit-preserved
loop-digit-preserved c = multiplied-more c.loop-digit.invariant c.from.result c.requires.factor_bound (omega arith) (omega (arith, c.loop-digit.auto.row)) c.from.ensures

pub returns : goal.returns
returns c = multiplied-done c.loop-digit.invariant (omega (arith, c.loop-digit.auto.row))
