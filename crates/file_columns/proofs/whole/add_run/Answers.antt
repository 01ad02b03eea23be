-- With delta the sums are added, where deltas of 0 leave the result before them (`results-still`); else all results are the value
-- (`results-plain`).
use Rattle.std.proofs.Common.{false, replicate, to_z-of_z, w32, SFits}
use Rattle.steps.proofs.Laws.Delta.{results-plain, run-last, results-still, last-still}
use Rattle.file_columns.specs.Laws.Passing.{of_zero}
use Rattle.file_columns.proofs.whole.add_run.Goals as goal

pub returns-then-value-eq0 : goal.returns-then-value-eq0
returns-then-value-eq0 c =
    let a = c in
    let f : SFits w32 a.args.tally.last = record { sfits = c.struct_told-1.given.1.1.1.0.1 } in
    rw (c.if-delta.true, of_zero a.args.value a.ranges.value c.if-value-eq0.true, results-still a.args.tally.last a.args.count f, last-still a.args.tally.last a.args.count f)
    (rw (to_z-of_z {w = w32} f) at c.add_cells.ensures)

pub returns : goal.returns
returns c =
    let a = c in
    rw (c.if-delta.false, results-plain a.args.tally.last (replicate a.args.count a.args.value), run-last false a.args.tally.last a.args.value a.args.count a.requires.0)
    (rw (to_z-of_z {w = w32} a.ranges.value) at c.add_cells-2.ensures)
