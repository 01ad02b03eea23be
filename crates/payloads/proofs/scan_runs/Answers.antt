-- What is kept of the runs before the place (`kept_run`) says the answer at the end (`kept-end`).
use Rattle.std.proofs.Common.{Bool, ◌&&◌, ap, ◌∙◌, arith, to_z-of_z, w32}
use Rattle.steps.specs.declared.Form.TheVariants.{Runs}
use Rattle.payloads.specs.Exact.{exact}
use Rattle.payloads.specs.Laws.Items.{item-read}
use Rattle.payloads.specs.Laws.Scan.{kept-start, kept_run, kept-wrong, kept-end}
use Rattle.payloads.proofs.scan_runs.Goals as goal

pub loop-value-init : goal.loop-value-init
loop-value-init c = let a = c.args in (omega arith, kept-start a.range a.delta a.length a.payload.now)

pub loop-value-smaller : goal.loop-value-smaller
loop-value-smaller c = let g = item-read (Runs c.args.range) c.args.payload.now c.loop-value.at c.run_item.ensures c.in-Run.is in omega (arith, g.0, g.1)

pub loop-value-preserved : goal.loop-value-preserved
loop-value-preserved c =
    let a = c.args in
    let p = c.loop-value in
    let g = item-read (Runs c.args.range) c.args.payload.now c.loop-value.at c.run_item.ensures c.in-Run.is in
    let v = to_z-of_z {w = w32} {z = c.in-Run.value} (record { sfits = omega arith }) in
    let e = ap (λ (t : Bool). p.exact && t) (c.is_exact-exact.ensures ∙ ap exact v) in
    (g.1, rw (c.saturating_sub-left.ensures, e) (kept_run a.range a.delta a.length a.payload.now p.at p.left p.over p.exact p.invariant.1 c.in-Run.value c.in-Run.count c.in-Run.next g.2 g.3))

pub returns-in-Wrong : goal.returns-in-Wrong
returns-in-Wrong c =
    let a = c.args in
    let p = c.loop-value in
    kept-wrong a.range a.delta a.length a.payload.now p.at p.left p.over p.exact p.invariant.1 (item-read (Runs a.range) a.payload.now p.at c.run_item.ensures c.in-Wrong.is)

pub returns-in-End : goal.returns-in-End
returns-in-End c =
    let a = c.args in
    let p = c.loop-value in
    c.judged.ensures
    ∙ kept-end a.range a.delta a.length a.payload.now p.at p.left p.over p.exact p.invariant.1 (item-read (Runs a.range) a.payload.now p.at c.run_item.ensures c.in-End.is)
