-- The line of the start ends where the line of what is looked at ends.
use mathlib.Core.Path.{◌∙◌}
use Rattle.meanings.specs.Laws.Steps.{line-here, line-next, line-last}
use Rattle.meanings.proofs.line_end.Goals as goal

pub returns-then-bytes-i-eq10 : goal.returns-then-bytes-i-eq10
returns-then-bytes-i-eq10 c =
    let l = c.loop-i in
    line-here c.args.bytes.now l.i c.loop-i-test.true c.if-bytes-i-eq10.true ∙ l.invariant

pub loop-i-preserved : goal.loop-i-preserved
loop-i-preserved c =
    let l = c.loop-i in
    line-next c.args.bytes.now l.i c.loop-i-test.true c.if-bytes-i-eq10.false ∙ l.invariant

pub returns : goal.returns
returns c = line-last c.args.bytes.now c.loop-i.i c.loop-i-test.false ∙ c.loop-i.invariant
