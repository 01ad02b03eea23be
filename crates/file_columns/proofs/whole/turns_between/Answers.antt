-- The sum before them and the next one are all the sums that there are (`turns`).
use Rattle.std.proofs.Common.{sym, ap, ◌∙◌, arith, to_z-of_z, w32}
use Rattle.numbers.specs.Ranges.{all_pass, between}
use Rattle.steps.specs.Delta.{results_from}
use Rattle.file_columns.specs.Laws.Around.{turns}
use Rattle.file_columns.proofs.whole.turns_between.Goals as goal

pub returns-then-count-eq0 : goal.returns-then-count-eq0
unfolding all_pass results_from
returns-then-count-eq0 c = rw c.if-count-eq0.true

pub returns-else-count-eq0 : goal.returns-else-count-eq0
returns-else-count-eq0 c =
    let a = c in
    let d = rw (to_z-of_z {w = w32} a.ranges.sum, to_z-of_z {w = w32} a.ranges.value) at c.add_delta.ensures in
    let e = rw (to_z-of_z {w = w32} a.ranges.low, to_z-of_z {w = w32} a.ranges.high, to_z-of_z {w = w32} (record { sfits = c.add_delta.type_inv })) at c.is_between.ensures in
    e ∙ ap (between a.args.low a.args.high) d
    ∙ sym (turns (between a.args.low a.args.high) a.args.sum a.args.value a.ranges.sum a.requires.0 a.requires.1 a.args.count (omega (arith, c.if-count-eq0.false)))
