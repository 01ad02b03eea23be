-- One test decides for all (`all_pass-same`).
use Rattle.std.proofs.Common.{sym, ◌∙◌, to_z-of_z, w32}
use Rattle.numbers.specs.Ranges.{between}
use Rattle.numbers.specs.Laws.Ranges.{all_pass-same}
use Rattle.file_columns.proofs.whole.same_between.Goals as goal

pub returns-then-is_between : goal.returns-then-is_between
returns-then-is_between c =
    λ k h.
    let a = c in
    let e = rw (to_z-of_z {w = w32} a.ranges.res, to_z-of_z {w = w32} a.ranges.low, to_z-of_z {w = w32} a.ranges.high) at c.is_between.ensures in
    (all_pass-same (between a.args.low a.args.high) k a.args.res h ∙ sym e ∙ c.if-is_between.true, to_z-of_z {w = w32} a.ranges.res)

pub returns : goal.returns
returns c =
    λ k h.
    let a = c in
    let e = rw (to_z-of_z {w = w32} a.ranges.res, to_z-of_z {w = w32} a.ranges.low, to_z-of_z {w = w32} a.ranges.high) at c.is_between.ensures in
    all_pass-same (between a.args.low a.args.high) k a.args.res h ∙ sym e ∙ c.if-is_between.false
