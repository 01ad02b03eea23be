-- Each turn adds one cell (`begun_more`).
use Rattle.std.proofs.Common.{arith}
use Rattle.writers.specs.Laws.Runs.{begun_more}
use Rattle.writers.proofs.runs.begun_in.Goals as goal

pub loop-k-preserved : goal.loop-k-preserved
loop-k-preserved c =
    let a = c.args in
    let p = c.loop-k in
    (omega arith, begun_more a.delta a.values.now a.from p.invariant.1 c.cell_after-in-loop-k.ensures c.cell_after.ensures c.begun-n.ensures)
