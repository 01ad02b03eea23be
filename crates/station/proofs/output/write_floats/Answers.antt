-- Each turn writes some of the values that are left: there is room for a line.
use Rattle.std.proofs.Common.{arith, ◌∙◌}
use Rattle.station.proofs.Laws.Output.{turn_inside, turn-less}
use Rattle.station.proofs.output.write_floats.Goals as goal

pub overflow_add-from : goal.overflow_add-from
overflow_add-from c = let t = turn_inside c.args.values.now c.loop-from.from c.float_lines-part.ensures c.loop-from.invariant.0 in omega arith

pub loop-from-smaller : goal.loop-from-smaller
loop-from-smaller c = turn-less c.args.values.now c.loop-from.from c.float_lines-part.ensures c.loop-from-test.true (omega (arith, c.loop-from.invariant.1))

pub loop-from-preserved : goal.loop-from-preserved
loop-from-preserved c =
    (turn_inside c.args.values.now c.loop-from.from c.float_lines-part.ensures c.loop-from.invariant.0, c.float_lines-part.auto.buffer ∙ c.loop-from.invariant.1)
