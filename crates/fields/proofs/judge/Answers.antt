-- A value of the wrong type is stepped over.
use Rattle.fields.specs.Laws.Notes.{judge-right, judge-wrong}
use Rattle.fields.proofs.judge.Goals as goal

pub returns-then-e-eq0 : goal.returns-then-e-eq0
returns-then-e-eq0 c = judge-wrong c.args.row c.field_typed-e.ensures _ c.if-e-eq0.true c.skip.ensures

pub returns : goal.returns
returns c = judge-right c.args.row c.field_typed-e.ensures c.if-e-eq0.false
