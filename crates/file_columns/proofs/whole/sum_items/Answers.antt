-- The answer of the tally with the results from here on is the answer of all (`run_on`, `run-off`).
use Rattle.std.proofs.Common.{drop, replicate, sym, ap, ◌∙◌, subst, arith, to_z-of_z, w32}
use Rattle.steps.specs.Delta.{results_from, last_from}
use Rattle.steps.specs.Payload.{read_in}
use Rattle.payloads.specs.declared.Item.TheVariants.{Run}
use Rattle.payloads.specs.Laws.Items.{Gives, item-read}
use Rattle.file_columns.specs.Passing.{Adds}
use Rattle.file_columns.specs.Laws.Passing.{rest_sums, sums-all, run_on, run-off, run_end}
use Rattle.file_columns.proofs.whole.sum_items.Goals as goal
use Rattle.file_columns.proofs.whole.sum_items.Goals.{After-add_run, In-Run}

-- the run that was read
read : (c : In-Run) → Gives c.args.form c.args.payload.now c.loop-value.at (Run c.in-Run.value c.in-Run.count c.in-Run.next)
read c = item-read c.args.form c.args.payload.now c.loop-value.at c.item_at.ensures c.in-Run.is

-- what is added of it
added : (c : After-add_run)
    → Adds c.args.types c.args.atoms.now c.args.bonds.now c.loop-value.tally
    (results_from c.args.delta c.loop-value.tally.last (replicate c.in-Run.count c.in-Run.value))
    (last_from c.args.delta c.loop-value.tally.last (replicate c.in-Run.count c.in-Run.value))
    c.add_run.result
added c = rw (to_z-of_z {w = w32} {z = c.in-Run.value} (record { sfits = omega arith })) at c.add_run.ensures

pub loop-value-init : goal.loop-value-init
loop-value-init c =
    let a = c in
    let l = a.requires.1 in
    rw c.to_come-tally.ensures (omega arith, (omega arith, omega arith), sums-all a.args.types a.args.atoms.now a.args.bonds.now a.args.n a.args.delta (read_in a.args.form a.args.payload.now))

pub add_run-requires : goal.add_run-requires
add_run-requires c = ((read c).2, c.requires.0, c.loop-value.invariant.1)

pub returns-in_err-tally-in-Run : goal.returns-in_err-tally-in-Run
returns-in_err-tally-in-Run c =
    let a = c.args in
    let p = c.loop-value in
    let h = subst (Adds a.types a.atoms.now a.bonds.now p.tally _ _) c.in_err-tally-in-Run.was (added (goal.at.returns-in_err-tally-in-Run c).After-add_run) in
    rw c.from_residual.ensures (sym (p.invariant.2 ∙ run-off a.types a.atoms.now a.bonds.now a.delta p.tally c.in-Run.value c.in-Run.count (read_in a.form (drop p.at a.payload.now)) (read_in a.form (drop c.in-Run.next a.payload.now)) (read (goal.at.returns-in_err-tally-in-Run c).In-Run).3 h))

pub loop-value-smaller : goal.loop-value-smaller
loop-value-smaller c = let g = read (goal.at.loop-value-smaller c).In-Run in omega (arith, g.0, g.1)

pub loop-value-preserved : goal.loop-value-preserved
loop-value-preserved c =
    let a = c.args in
    let p = c.loop-value in
    let g = read (goal.at.loop-value-preserved c).In-Run in
    let h = subst (Adds a.types a.atoms.now a.bonds.now p.tally _ _) c.in_ok-tally-in-Run.was (added (goal.at.loop-value-preserved c).After-add_run) in
    (g.1, h.4, p.invariant.2 ∙ run_on a.types a.atoms.now a.bonds.now a.delta p.tally c.in-Run.value c.in-Run.count (read_in a.form (drop p.at a.payload.now)) (read_in a.form (drop c.in-Run.next a.payload.now)) g.3 c.in_ok-tally-in-Run.tally h)

pub returns-in-Wrong : goal.returns-in-Wrong
returns-in-Wrong c =
    let a = c.args in
    let p = c.loop-value in
    let e = item-read a.form a.payload.now p.at c.item_at.ensures c.in-Wrong.is in
    sym (p.invariant.2 ∙ ap (rest_sums a.types a.atoms.now a.bonds.now a.delta p.tally) e)

pub returns-in-End : goal.returns-in-End
returns-in-End c =
    let a = c.args in
    let p = c.loop-value in
    let e = item-read a.form a.payload.now p.at c.item_at.ensures c.in-End.is in
    c.sums_in.ensures ∙ sym (p.invariant.2 ∙ run_end a.types a.atoms.now a.bonds.now a.delta p.tally (read_in a.form (drop p.at a.payload.now)) e)
