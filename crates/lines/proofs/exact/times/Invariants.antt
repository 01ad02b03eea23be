-- The digits passed are those of the product; a carry stays small.
use Rattle.lines.specs.Laws.Figures.{Multiplied}
use Rattle.lines.proofs.exact.times.Given as goal

abbrev pub invariant-loop-digit : goal.invariant-loop-digit
invariant-loop-digit l = Multiplied l.initial.row l.factor l.more l.row l.carry l.digit-index
