-- Integers in their lead bytes are passed at once; else the first of the items may be.
use Rattle.values.specs.Standing.{over}
use Rattle.values.proofs.over_items.Goals as goal

pub returns-then-all_low : goal.returns-then-all_low
returns-then-all_low c = over (c.all_low.ensures.0 c.if-all_low.true)
