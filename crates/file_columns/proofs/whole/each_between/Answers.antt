-- The sums that are left of the run decide (`results-first`).
use Rattle.std.proofs.Common.{◌≡◌, ◌+◌, ◌-◌, sym, ◌∙◌, arith, to_z-of_z, w32, to_z, of_z}
use Rattle.numbers.specs.Ranges.{between}
use Rattle.steps.specs.Delta.{plus_delta}
use Rattle.file_columns.specs.Laws.Passing.{run-left-on, run-left-off, run-left-end}
use Rattle.file_columns.proofs.whole.each_between.Goals as goal
use Rattle.file_columns.proofs.whole.each_between.Goals.{After-add_delta-x}

-- the next sum
next : (c : After-add_delta-x) → to_z w32 (of_z w32 c.add_delta-x.result) ≡ plus_delta (to_z w32 c.loop.x-bits) (to_z w32 (of_z w32 c.args.value))
next c = to_z-of_z {w = w32} (record { sfits = c.add_delta-x.type_inv }) ∙ c.add_delta-x.ensures

pub returns-then-not-is_between : goal.returns-then-not-is_between
returns-then-not-is_between c =
    let a = c in
    let p = c.loop in
    let e = run-left-off (between (to_z w32 (of_z w32 a.args.low)) (to_z w32 (of_z w32 a.args.high))) (to_z w32 (of_z w32 a.args.value)) (to_z w32 (of_z w32 a.args.sum)) a.args.count (to_z w32 p.x-bits) (a.args.count - p.counter) p.invariant (omega arith)
    (to_z w32 (of_z w32 c.add_delta-x.result)) (next (goal.at.returns-then-not-is_between c).After-add_delta-x) (sym c.is_between.ensures ∙ c.if-not-is_between.true) in
    sym (rw (to_z-of_z {w = w32} a.ranges.low, to_z-of_z {w = w32} a.ranges.high, to_z-of_z {w = w32} a.ranges.value, to_z-of_z {w = w32} a.ranges.sum) at e)

pub loop-preserved : goal.loop-preserved
loop-preserved c =
    let a = c in
    let p = c.loop in
    let k : a.args.count - p.counter - 1 ≡ a.args.count - (p.counter + 1) = omega arith in
    rw k at (run-left-on (between (to_z w32 (of_z w32 a.args.low)) (to_z w32 (of_z w32 a.args.high))) (to_z w32 (of_z w32 a.args.value)) (to_z w32 (of_z w32 a.args.sum)) a.args.count (to_z w32 p.x-bits) (a.args.count - p.counter) p.invariant (omega arith)
    (to_z w32 (of_z w32 c.add_delta-x.result)) (next (goal.at.loop-preserved c).After-add_delta-x) (sym c.is_between.ensures ∙ c.if-not-is_between.false))

pub returns : goal.returns
returns c =
    let a = c in
    let p = c.loop in
    let e = run-left-end (between (to_z w32 (of_z w32 a.args.low)) (to_z w32 (of_z w32 a.args.high))) (to_z w32 (of_z w32 a.args.value)) (to_z w32 (of_z w32 a.args.sum)) a.args.count (to_z w32 p.x-bits) (a.args.count - p.counter) p.invariant (omega arith) in
    sym (rw (to_z-of_z {w = w32} a.ranges.low, to_z-of_z {w = w32} a.ranges.high, to_z-of_z {w = w32} a.ranges.value, to_z-of_z {w = w32} a.ranges.sum) at e)
