-- A refused plan, or the payload placed by its form and finished with the header.
use mathlib.Core.Path.{◌≡◌, refl, sym, ap, ◌∙◌}
use lib.ListN.{length}
use mir.Syntax.{w32}
use mir.Val.{of_z}
use mir.Facts.{to_z-of_z}
use Rattle.columns.specs.declared.Wanted.TheVariants.{Only}
use Rattle.std.specs.Prelude.{Ok}
use Rattle.std.proofs.lemmas.Result.{err_from_is_err_and}
use Rattle.columns.specs.Encode.{plan_with, plan_of}
use Rattle.encoding.specs.Steps.{NumberForm}
use Rattle.encoding.specs.Laws.Plan.{row, number-row, number-allowed}
use Rattle.encoding.specs.Laws.Calls.{refused-answer, good-holds, good-answer}
use Rattle.encoding.proofs.encode_numbers.Goals as goal
use Rattle.encoding.proofs.encode_numbers.Goals.{In_ok-plan}

good : (c : goal.In_ok-plan) → plan_of (Only c.args.kind) c.cast_unsigned-number.result c.args.parameter (length c.args.values.now) ≡ plan_with c.in_ok-plan.plan.form c.in_ok-plan.plan.delta c.in_ok-plan.plan.length c.in_ok-plan.plan.parameter
good c = sym c.in_ok-plan.ensures

number : (c : goal.In_ok-plan) → NumberForm c.in_ok-plan.plan.form c.in_ok-plan.plan.delta
number c = let a = c.args in number-row _ _ a.kind c.requires (row a.kind c.cast_unsigned-number.result a.parameter (length a.values.now) (good c))

pub place-requires : goal.place-requires
place-requires c = number (goal.at.place-requires c).In_ok-plan

pub returns-in_err-plan : goal.returns-in_err-plan
returns-in_err-plan c =
    let a = c.args in
    let p = err_from_is_err_and c.from_residual.result c.from_residual.ensures.1 in
    let whole = refused-answer (Only a.kind) a.values.now a.buffer.now (c.cast_unsigned-number.ensures ∙ ap (of_z w32) (to_z-of_z {w = w32} c.ranges.codec)) refl (sym c.in_err-plan.ensures) in
    rw (p.1, p.2) (record { answer = whole.0; buffer = whole.1 })

pub returns-in_err-placed : goal.returns-in_err-placed
returns-in_err-placed c =
    let a = c.args in
    let p = err_from_is_err_and c.from_residual-in_err-placed.result c.from_residual-in_err-placed.ensures.1 in
    let whole = good-answer (Only a.kind) a.values.now a.buffer.now (c.cast_unsigned-number.ensures ∙ ap (of_z w32) (to_z-of_z {w = w32} c.ranges.codec)) refl (good (goal.at.returns-in_err-placed c).In_ok-plan) (number-allowed c.in_ok-plan.plan.form c.in_ok-plan.plan.delta a.parameter a.values.now (number (goal.at.returns-in_err-placed c).In_ok-plan), refl) c.in_err-placed.ensures.answer c.in_err-placed.ensures.buffer refl refl in
    rw (p.1, p.2) (record { answer = whole.0; buffer = whole.1 })

pub finish-requires : goal.finish-requires
finish-requires c =
    let a = c.args in
    good-holds (Only a.kind) a.values.now a.buffer.now (c.cast_unsigned-number.ensures ∙ ap (of_z w32) (to_z-of_z {w = w32} c.ranges.codec)) refl (good (goal.at.finish-requires c).In_ok-plan) (number-allowed c.in_ok-plan.plan.form c.in_ok-plan.plan.delta a.parameter a.values.now (number (goal.at.finish-requires c).In_ok-plan), refl) c.in_ok-placed.ensures.answer c.in_ok-placed.ensures.buffer

pub returns : goal.returns
returns c =
    let a = c.args in
    let whole = good-answer (Only a.kind) a.values.now a.buffer.now (c.cast_unsigned-number.ensures ∙ ap (of_z w32) (to_z-of_z {w = w32} c.ranges.codec)) refl (good (goal.at.returns c).In_ok-plan) (number-allowed c.in_ok-plan.plan.form c.in_ok-plan.plan.delta a.parameter a.values.now (number (goal.at.returns c).In_ok-plan), refl) c.in_ok-placed.ensures.answer c.in_ok-placed.ensures.buffer (ap Ok c.finish.ensures.count) c.finish.ensures.buffer in
    record { answer = whole.0; buffer = whole.1 }
