-- Each turn writes some of the names that are left.
use Rattle.std.proofs.Common.{arith, ◌∙◌}
use Rattle.station.proofs.Laws.Output.{step-inside}
use Rattle.station.proofs.output.write_names.Goals as goal

pub overflow_mul-step : goal.overflow_mul-step
overflow_mul-step c =
    let t = step-inside c.args.size c.args.names.now c.loop-from.from c.name_lines-part.ensures c.loop-from.invariant.0 in
    omega arith

pub overflow_add-from : goal.overflow_add-from
overflow_add-from c =
    let t = step-inside c.args.size c.args.names.now c.loop-from.from c.name_lines-part.ensures c.loop-from.invariant.0 in
    omega arith

pub loop-from-preserved : goal.loop-from-preserved
loop-from-preserved c =
    (step-inside c.args.size c.args.names.now c.loop-from.from c.name_lines-part.ensures c.loop-from.invariant.0, c.name_lines-part.auto.buffer ∙ c.loop-from.invariant.1)
