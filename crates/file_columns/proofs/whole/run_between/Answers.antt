-- With delta the sums decide; else all results are the value (`results-plain`).
use Rattle.std.proofs.Common.{false, replicate, to_z-of_z, w32}
use Rattle.steps.proofs.Laws.Delta.{results-plain, run-last}
use Rattle.file_columns.proofs.whole.run_between.Goals as goal

pub returns : goal.returns
returns c =
    let a = c in
    let e = rw (to_z-of_z {w = w32} a.ranges.low, to_z-of_z {w = w32} a.ranges.high, to_z-of_z {w = w32} a.ranges.value) at (c.same_between.ensures a.args.count a.requires) in
    rw (c.if-delta.false, results-plain a.args.sum (replicate a.args.count a.args.value), run-last false a.args.sum a.args.value a.args.count a.requires) e
