-- The columns before are long enough; the one at hand is judged.
use Rattle.std.proofs.Common.{sym, ◌∙◌}
use Rattle.file_columns.specs.Laws.Steps.{value_at, right-at, length-next, length-end}
use Rattle.file_columns.proofs.lengths_fit.Goals as goal

pub returns-then-not-fits_level : goal.returns-then-not-fits_level
returns-then-not-fits_level c =
    λ es p r.
    let i = c.loop-i.i in
    let lt = c.loop-i-test.true in
    let f = c.field_of.ensures in
    let k = c.kind_of.ensures in
    let l = rw k at (c.length_at-list.ensures (value_at i es) (rw (← f.0) (p.says c.field_of.result f.1)) (rw k (right-at es r i lt))) in
    let n = length-next i _ _ _ es lt c.level_of.ensures l (sym c.fits_level.ensures ∙ c.if-not-fits_level.true) in
    sym (c.loop-i.invariant es p r ∙ n)

pub loop-i-preserved : goal.loop-i-preserved
loop-i-preserved c =
    λ es p r.
    let i = c.loop-i.i in
    let lt = c.loop-i-test.true in
    let f = c.field_of.ensures in
    let k = c.kind_of.ensures in
    let l = rw k at (c.length_at-list.ensures (value_at i es) (rw (← f.0) (p.says c.field_of.result f.1)) (rw k (right-at es r i lt))) in
    let n = length-next i _ _ _ es lt c.level_of.ensures l (sym c.fits_level.ensures ∙ c.if-not-fits_level.false) in
    c.loop-i.invariant es p r ∙ n

pub returns : goal.returns
returns c = λ es p r. sym (c.loop-i.invariant es p r ∙ length-end _ _ _ _ es c.loop-i-test.false)
