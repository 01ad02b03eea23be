-- The loop's invariant: `n` cells up to the one at `i + 1` begin a run after the first, and the runs from that cell on are still to come.
use Rattle.std.proofs.Common.{◌≡◌, ◌+◌, ◌-◌, ◌*◌, ◌<◌, length, pos, sym, ap, arith}
use Rattle.steps.specs.Delta.{deltas_if}
use Rattle.steps.specs.RunLength.{runs_of}
use Rattle.steps.proofs.Laws.Delta.{deltas-end}
use Rattle.writers.specs.Laws.Runs.{runs_of-none, next-cell, runs-next, column-one, cells-last}
use Rattle.writers.proofs.runs.count_numbers.Lts as lts
use Rattle.writers.proofs.runs.count_numbers.Reads as reads
use Rattle.writers.proofs.runs.count_numbers.Tie as tie
use Rattle.writers.proofs.runs.count_numbers.Goals as goal

-- what is left
rest : (c : lts.After-begun_in2 tie.the-claims reads.Pre reads.Post goal.the-invariant-loop-i goal.the-decreases-loop-i) → (c.loop-i.n + c.begun_in-2.result + 1) * 2 ≡ length (runs_of (deltas_if c.args.delta c.args.values.now))
rest c =
    let a = c.args in
    let p = c.loop-i in
    let b = c.begun_in-2.ensures in
    let l = cells-last a.delta a.values.now (p.i + (length a.values.now - 2 - p.i)) (omega (arith, p.invariant.0)) in
    omega (arith, p.invariant.2, b.runs)

pub returns-then-values-eq0 : goal.returns-then-values-eq0
returns-then-values-eq0 c =
    let a = c.args in
    sym (ap length (runs_of-none _ (deltas-end a.delta (pos 0) a.values.now 0 (omega arith))))

pub returns-then-values-eq1 : goal.returns-then-values-eq1
returns-then-values-eq1 c = let a = c.args in sym (column-one a.delta a.values.now (omega arith))

pub loop-i-init : goal.loop-i-init
loop-i-init c =
    let a = c.args in
    let h : 0 < length a.values.now = omega arith in
    let d = c in
    let n = c.cell_after.ensures in
    let e = next-cell a.delta (pos 0) a.values.now 0 h (record { sfits = d.delta_if-arg-1.given }) (record { sfits = d.delta_if.type_inv }) d.delta_if.ensures c.cast_unsigned-first.ensures in
    (omega arith, omega (arith, c.begun-n.ensures.1), runs-next e n.cell (omega (arith, c.cast_unsigned-first.type_inv)) n.fits c.begun-n.ensures.0)

pub returns : goal.returns
returns c = rest c
