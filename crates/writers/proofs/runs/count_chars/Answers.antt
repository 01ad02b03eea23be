-- The loop's invariant: `n` runs are begun, the last with `v`, and the cells from `i` on are still to come.
use Rattle.std.proofs.Common.{◌<◌, length, pos, sym, ap, arith}
use Rattle.steps.proofs.Laws.Lists.{map_at, map-end}
use Rattle.writers.specs.Laws.Runs.{runs_of-none, counted-first, counted-more, counted-last}
use Rattle.writers.proofs.runs.count_chars.Goals as goal

pub returns-then-values-eq0 : goal.returns-then-values-eq0
returns-then-values-eq0 c = sym (ap length (runs_of-none _ (map-end pos 0 c.args.values.now 0 (omega arith))))

pub loop-i-init : goal.loop-i-init
loop-i-init c =
    let s = c.args.values.now in
    let h : 0 < length s = omega arith in
    (omega arith, omega arith, counted-first _ _ _ (map_at pos 0 s 0 h))

pub loop-i-preserved : goal.loop-i-preserved
loop-i-preserved c =
    let s = c.args.values.now in
    let p = c.loop-i in
    (omega arith, omega (arith, c.begun.ensures.1), counted-more p.invariant.2 (map_at pos 0 s p.i c.loop-i-test.true) c.begun.ensures.0)

pub returns : goal.returns
returns c = counted-last c.loop-i.invariant.2 (map-end pos 0 c.args.values.now c.loop-i.i (omega arith))
