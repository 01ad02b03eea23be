-- The first sum and those that are left after it decide (`results-first`), and the last is that of the whole run (`run-last`).
use Rattle.std.proofs.Common.{◌≡◌, ◌-◌, true, ◌&&◌, replicate, ℤ, sym, ap, ◌∙◌, to_z-of_z, w32}
use Rattle.numbers.specs.Ranges.{all_pass, between, all_between}
use Rattle.steps.specs.Delta.{plus_delta, results_from}
use Rattle.steps.proofs.Laws.Delta.{results-first, run-last}
use Rattle.file_columns.proofs.whole.sums_between.Goals as goal
use Rattle.file_columns.proofs.whole.sums_between.Goals.{After-is_between, After-stays_between, Start}

-- the first decides with the others
first : (c : Start)
    → all_between c.args.low c.args.high (results_from true c.args.sum (replicate c.args.count c.args.value))
    ≡ (between c.args.low c.args.high (plus_delta c.args.sum c.args.value) && all_between c.args.low c.args.high (results_from true (plus_delta c.args.sum c.args.value) (replicate (c.args.count - 1) c.args.value)))
unfolding all_pass
first c = ap (all_between c.args.low c.args.high) (results-first true c.args.sum c.args.value c.args.count c.requires)

-- what the test of the first says
tested : (c : After-is_between) → c.is_between.result ≡ between c.args.low c.args.high (plus_delta c.args.sum c.args.value)
tested c =
    let a = c in
    let d = rw (to_z-of_z {w = w32} a.ranges.sum, to_z-of_z {w = w32} a.ranges.value) at c.add_delta-first.ensures in
    let e = rw (to_z-of_z {w = w32} a.ranges.low, to_z-of_z {w = w32} a.ranges.high, to_z-of_z {w = w32} (record { sfits = c.add_delta-first.type_inv })) at c.is_between.ensures in
    e ∙ ap (between a.args.low a.args.high) d

-- what is said of those that are left
others : (c : After-stays_between)
    → c.stays_between.result
    ≡ all_between c.args.low c.args.high (results_from true (plus_delta c.args.sum c.args.value) (replicate (c.args.count - 1) c.args.value))
others c =
    let a = c in
    let d = rw (to_z-of_z {w = w32} a.ranges.sum, to_z-of_z {w = w32} a.ranges.value) at c.add_delta-first.ensures in
    let e = rw (to_z-of_z {w = w32} a.ranges.low, to_z-of_z {w = w32} a.ranges.high, to_z-of_z {w = w32} a.ranges.value, to_z-of_z {w = w32} (record { sfits = c.add_delta-first.type_inv })) at c.stays_between.ensures in
    e ∙ ap (λ (x : ℤ). all_between a.args.low a.args.high (results_from true x (replicate (a.args.count - 1) a.args.value))) d

pub returns-then-not-is_between : goal.returns-then-not-is_between
returns-then-not-is_between c = first (goal.at.returns-then-not-is_between c).Start ∙ rw (sym (tested (goal.at.returns-then-not-is_between c).After-is_between) ∙ c.if-not-is_between.true)

pub returns-then-not-stays_between : goal.returns-then-not-stays_between
returns-then-not-stays_between c =
    first (goal.at.returns-then-not-stays_between c).Start
    ∙ rw (sym (tested (goal.at.returns-then-not-stays_between c).After-is_between) ∙ c.if-not-is_between.false) (sym (others (goal.at.returns-then-not-stays_between c).After-stays_between) ∙ c.if-not-stays_between.true)

pub returns : goal.returns
returns c =
    let a = c.before.before.before.before.before.before in
    let r = rw (to_z-of_z {w = w32} a.ranges.sum, to_z-of_z {w = w32} a.ranges.value) at c.after_run.ensures in (
      first a ∙ rw (sym (tested (goal.at.returns c).After-is_between) ∙ c.if-not-is_between.false) (sym (others (goal.at.returns c).After-stays_between) ∙ c.if-not-stays_between.false),
      to_z-of_z {w = w32} (record { sfits = c.after_run.type_inv }) ∙ r ∙ sym (run-last true a.args.sum a.args.value a.args.count a.requires),
    )
