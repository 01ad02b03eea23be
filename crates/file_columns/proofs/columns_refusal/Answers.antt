-- The columns before are fine; the one at hand is judged.
use Rattle.std.proofs.Common.{refl, sym, ◌∙◌}
use Rattle.std.proofs.lemmas.Result.{err_from_is_err_and}
use Rattle.refusal.proofs.Laws.First.{or_else-next, or_else-first}
use Rattle.file_columns.specs.Laws.Exits.{some_number}
use Rattle.file_columns.specs.Laws.Steps.{value_at, number-next, number-end}
use Rattle.file_columns.proofs.columns_refusal.Goals as goal

pub returns-in_err-refusal_at : goal.returns-in_err-refusal_at
returns-in_err-refusal_at c =
    λ es p.
    let f = c.field_of.ensures in
    let i = c.loop-i.i in
    let r = c.in_err-refusal_at.ensures (value_at i es) (rw (← f.0) (p.says c.field_of.result f.1)) in
    let n = number-next i es c.loop-i-test.true c.kind_of.ensures r in
    let e = err_from_is_err_and c.from_residual.result c.from_residual.ensures.1 in
    rw (e.1, e.2) (sym (c.loop-i.invariant es p ∙ n ∙ or_else-first _ _ (some_number c.in_err-refusal_at.field-0.0)))

pub loop-i-preserved : goal.loop-i-preserved
loop-i-preserved c =
    λ es p.
    let f = c.field_of.ensures in
    let i = c.loop-i.i in
    let r = c.in_ok-refusal_at.ensures (value_at i es) (rw (← f.0) (p.says c.field_of.result f.1)) in
    let n = number-next i es c.loop-i-test.true c.kind_of.ensures r in
    c.loop-i.invariant es p ∙ n ∙ or_else-next _ _ refl

pub returns : goal.returns
returns c = λ es p. sym (c.loop-i.invariant es p ∙ number-end _ es c.loop-i-test.false)
