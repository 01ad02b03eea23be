-- What is kept of the runs before the place (`kept_run`) says the refusal at the end (`kept-end`).
use Rattle.std.specs.Prelude.{Ok, Err}
use Rattle.std.proofs.Common.{◌≡◌, Bool, true, false, cond, not, ◌&&◌, ◌||◌, eqb, refl, ap, ◌∙◌, arith}
use Rattle.refusal.specs.Table.{length_differs}
use Rattle.steps.specs.declared.Form.TheVariants.{Runs}
use Rattle.steps.specs.Payload.{read_in}
use Rattle.payloads.specs.Exact.{exact}
use Rattle.payloads.specs.Items.{outcome_refusal}
use Rattle.payloads.specs.Laws.Items.{item-read}
use Rattle.payloads.specs.Laws.Scan.{kept-start, kept_run, kept-wrong, kept-end}
use Rattle.payloads.specs.Laws.Refusal.{outcome-scan}
use Rattle.payloads.proofs.count_runs.Goals as goal

-- whether the results are exact is not told
same : (b ok : Bool) → outcome_refusal (cond b (Err length_differs) (Ok false)) ≡ outcome_refusal (cond b (Err length_differs) (Ok ok))
same true ok = refl
same false ok = refl

pub loop-count-init : goal.loop-count-init
loop-count-init c = let a = c.args in (omega arith, true, kept-start a.range false a.length a.payload.now)

pub loop-count-smaller : goal.loop-count-smaller
loop-count-smaller c = let g = item-read (Runs c.args.range) c.args.payload.now c.loop-count.at c.run_item.ensures c.in-Run.is in omega (arith, g.0, g.1)

pub loop-count-preserved : goal.loop-count-preserved
loop-count-preserved c =
    let a = c.args in
    let p = c.loop-count in
    let g = item-read (Runs c.args.range) c.args.payload.now c.loop-count.at c.run_item.ensures c.in-Run.is in
    (g.1, p.invariant.1 && exact c.in-Run.field-0, rw c.saturating_sub-left.ensures (kept_run a.range false a.length a.payload.now p.at p.left p.over p.invariant.1 p.invariant.2 c.in-Run.field-0 c.in-Run.count c.in-Run.next g.2 g.3))

pub returns-in-Wrong : goal.returns-in-Wrong
returns-in-Wrong c =
    let a = c.args in
    let p = c.loop-count in
    ap outcome_refusal (kept-wrong a.range false a.length a.payload.now p.at p.left p.over p.invariant.1 p.invariant.2 (item-read (Runs a.range) a.payload.now p.at c.run_item.ensures c.in-Wrong.is))
    ∙ outcome-scan (Runs a.range) false a.length (read_in (Runs a.range) a.payload.now)

pub returns-in-End : goal.returns-in-End
returns-in-End c =
    let a = c.args in
    let p = c.loop-count in
    c.refusal_in.ensures ∙ ap outcome_refusal c.judged.ensures ∙ same (p.over || not (eqb p.left 0)) p.invariant.1
    ∙ ap outcome_refusal (kept-end a.range false a.length a.payload.now p.at p.left p.over p.invariant.1 p.invariant.2 (item-read (Runs a.range) a.payload.now p.at c.run_item.ensures c.in-End.is))
    ∙ outcome-scan (Runs a.range) false a.length (read_in (Runs a.range) a.payload.now)
