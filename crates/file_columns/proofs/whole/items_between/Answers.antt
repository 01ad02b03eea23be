-- The answer from here is the answer of all (`rest-on`, `rest-off`, `rest-many`).
use Rattle.std.proofs.Common.{◌≡◌, Bool, false, eqb, drop, replicate, sym, ap, ◌∙◌, subst, arith, to_z-of_z, w32, to_z, of_z}
use Rattle.numbers.specs.Ranges.{between}
use Rattle.steps.specs.Delta.{results_from, last_from}
use Rattle.steps.specs.Payload.{read_in}
use Rattle.payloads.specs.declared.Item.TheVariants.{Run}
use Rattle.payloads.specs.Laws.Items.{Gives, item-read}
use Rattle.file_columns.specs.Passing.{held_pass, Reaches}
use Rattle.file_columns.specs.Laws.Passing.{rest_pass, rest-many, rest-on, rest-off, rest_end}
use Rattle.file_columns.proofs.whole.items_between.Goals as goal
use Rattle.file_columns.proofs.whole.items_between.Goals.{After-run_between, In-Run, Start}

-- the run that was read
read : (c : In-Run)
    → Gives c.args.form c.args.payload.now c.loop-value.at (Run c.in-Run.value c.in-Run.count c.in-Run.next)
read c = item-read c.args.form c.args.payload.now c.loop-value.at c.item_at.ensures c.in-Run.is

-- what is said of it
said : (c : After-run_between)
    → Reaches (between (to_z w32 (of_z w32 c.args.low)) (to_z w32 (of_z w32 c.args.high)))
    (results_from c.args.delta (to_z w32 c.loop-value.last-bits) (replicate c.in-Run.count c.in-Run.value))
    (last_from c.args.delta (to_z w32 c.loop-value.last-bits) (replicate c.in-Run.count c.in-Run.value))
    c.run_between.result
said c = rw (to_z-of_z {w = w32} {z = c.in-Run.value} (record { sfits = omega arith })) at c.run_between.ensures

-- the answer in the source's terms
answer : (c : Start) (r : Bool) → held_pass (between (to_z w32 (of_z w32 c.args.low)) (to_z w32 (of_z w32 c.args.high))) c.args.n c.args.delta (read_in c.args.form c.args.payload.now) ≡ r
    → r ≡ held_pass (between c.args.low c.args.high) c.args.n c.args.delta (read_in c.args.form c.args.payload.now)
answer c r e = sym (rw (to_z-of_z {w = w32} c.ranges.low, to_z-of_z {w = w32} c.ranges.high) at e)

pub returns-then-left-count : goal.returns-then-left-count
returns-then-left-count c =
    let a = c in
    let p = c.loop-value in
    answer (goal.at.returns-then-left-count c).Start false (p.invariant.1 ∙ rest-many (between (to_z w32 (of_z w32 a.args.low)) (to_z w32 (of_z w32 a.args.high))) p.left a.args.delta (to_z w32 p.last-bits) c.in-Run.value c.in-Run.count (read_in a.args.form (drop p.at a.args.payload.now)) (read_in a.args.form (drop c.in-Run.next a.args.payload.now)) (read (goal.at.returns-then-left-count c).In-Run).3 c.if-left-count.true)

pub run_between-requires : goal.run_between-requires
run_between-requires c = (read (goal.at.run_between-requires c).In-Run).2

pub returns-in_default : goal.returns-in_default
returns-in_default c =
    let a = c in
    let p = c.loop-value in
    let h = subst (Reaches (between (to_z w32 (of_z w32 a.args.low)) (to_z w32 (of_z w32 a.args.high))) _ _) c.in_default.is (said (goal.at.returns-in_default c).After-run_between) in
    answer (goal.at.returns-in_default c).Start false (p.invariant.1 ∙ rest-off (between (to_z w32 (of_z w32 a.args.low)) (to_z w32 (of_z w32 a.args.high))) p.left a.args.delta (to_z w32 p.last-bits) c.in-Run.value c.in-Run.count (read_in a.args.form (drop p.at a.args.payload.now)) (read_in a.args.form (drop c.in-Run.next a.args.payload.now)) (read (goal.at.returns-in_default c).In-Run).3 h)

pub loop-value-smaller : goal.loop-value-smaller
loop-value-smaller c = let g = read (goal.at.loop-value-smaller c).In-Run in omega (arith, g.0, g.1)

pub loop-value-preserved : goal.loop-value-preserved
loop-value-preserved c =
    let a = c in
    let p = c.loop-value in
    let g = read (goal.at.loop-value-preserved c).In-Run in
    let h = subst (Reaches (between (to_z w32 (of_z w32 a.args.low)) (to_z w32 (of_z w32 a.args.high))) _ _) c.in-Some.is (said (goal.at.loop-value-preserved c).After-run_between) in
    let y = to_z-of_z {w = w32} {z = c.in-Some.x} (record { sfits = omega arith }) in
    (g.1, rw y (p.invariant.1 ∙ rest-on (between (to_z w32 (of_z w32 a.args.low)) (to_z w32 (of_z w32 a.args.high))) p.left a.args.delta (to_z w32 p.last-bits) c.in-Run.value c.in-Run.count (read_in a.args.form (drop p.at a.args.payload.now)) (read_in a.args.form (drop c.in-Run.next a.args.payload.now)) g.3 c.if-left-count.false h.0 c.in-Some.x h.1))

pub returns-in-Wrong : goal.returns-in-Wrong
returns-in-Wrong c =
    let a = c in
    let p = c.loop-value in
    let e = item-read a.args.form a.args.payload.now p.at c.item_at.ensures c.in-Wrong.is in
    answer (goal.at.returns-in-Wrong c).Start false (p.invariant.1 ∙ ap (rest_pass (between (to_z w32 (of_z w32 a.args.low)) (to_z w32 (of_z w32 a.args.high))) p.left a.args.delta (to_z w32 p.last-bits)) e)

pub returns-in-End : goal.returns-in-End
returns-in-End c =
    let a = c in
    let p = c.loop-value in
    let e = item-read a.args.form a.args.payload.now p.at c.item_at.ensures c.in-End.is in
    answer (goal.at.returns-in-End c).Start (eqb p.left 0) (p.invariant.1 ∙ rest_end (between (to_z w32 (of_z w32 a.args.low)) (to_z w32 (of_z w32 a.args.high))) p.left a.args.delta (to_z w32 p.last-bits) (read_in a.args.form (drop p.at a.args.payload.now)) e)
