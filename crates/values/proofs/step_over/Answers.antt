-- A value whose head is its lead byte ends with it or with its body, and a float after four bytes; another goes by the table.
use Rattle.values.specs.Laws.Standing.{steps_low, steps-short, steps-float}
use Rattle.values.proofs.step_over.Goals as goal

pub returns-then-b-lt128 : goal.returns-then-b-lt128
returns-then-b-lt128 c = steps_low _ _ c.if-at-file.true c.if-b-lt128.true

pub returns-then-b-lt192 : goal.returns-then-b-lt192
returns-then-b-lt192 c = steps-short _ _ c.if-at-file.true c.if-b-lt160.false c.if-b-lt192.true c.from.ensures c.past.ensures

pub returns-then-b : goal.returns-then-b
returns-then-b c = steps-float _ _ c.if-at-file.true c.if-b.true c.past-then-b.ensures
