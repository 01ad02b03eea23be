-- A refused plan, or the names placed and finished with the header.
use mathlib.Core.Path.{◌≡◌, refl, sym, ap, ◌∙◌}
use mathlib.Core.Bool.{false}
use mathlib.Core.List.{map}
use lib.ListN.{length, length-map}
use lib.IntN.{pos}
use mir.Syntax.{w32}
use mir.Val.{of_z}
use mir.Facts.{to_z-of_z}
use Rattle.steps.specs.declared.Form.TheVariants.{Names}
use Rattle.columns.specs.declared.Kind.TheVariants.{Strings}
use Rattle.columns.specs.declared.Wanted.TheVariants.{Only}
use Rattle.std.specs.Prelude.{Ok}
use Rattle.std.proofs.lemmas.Result.{err_from_is_err_and}
use Rattle.columns.specs.Encode.{plan_with, plan_of}
use Rattle.encoding.specs.Laws.Plan.{row, one_form}
use Rattle.encoding.specs.Laws.Calls.{refused-answer, good-holds, good-answer}
use Rattle.encoding.proofs.encode_strings.Goals as goal
use Rattle.encoding.proofs.encode_strings.Goals.{In_ok-plan}

good : (c : goal.In_ok-plan) → plan_of (Only Strings) c.cast_unsigned-number.result c.cast_unsigned-bytes.result (length (map pos c.args.names.now)) ≡ plan_with c.in_ok-plan.plan.form c.in_ok-plan.plan.delta c.in_ok-plan.plan.length c.in_ok-plan.plan.parameter
good c = ap (plan_of (Only Strings) c.cast_unsigned-number.result c.cast_unsigned-bytes.result) (length-map c.args.names.now pos) ∙ sym c.in_ok-plan.ensures

-- the form that this kind has
row_is : (c : goal.In_ok-plan) → (c.in_ok-plan.plan.form ≡ Names) × (c.in_ok-plan.plan.delta ≡ false)
row_is c = row Strings c.cast_unsigned-number.result c.cast_unsigned-bytes.result (length (map pos c.args.names.now)) (good c)

pub returns-in_err-plan : goal.returns-in_err-plan
returns-in_err-plan c =
    let a = c.args in
    let p = err_from_is_err_and c.from_residual.result c.from_residual.ensures.1 in
    let whole = refused-answer (Only Strings) (map pos a.names.now) a.buffer.now (c.cast_unsigned-number.ensures ∙ ap (of_z w32) (to_z-of_z {w = w32} c.ranges.codec)) (c.cast_unsigned-bytes.ensures ∙ ap (of_z w32) (to_z-of_z {w = w32} c.ranges.size)) (ap (plan_of (Only Strings) c.cast_unsigned-number.result c.cast_unsigned-bytes.result) (length-map a.names.now pos) ∙ sym c.in_err-plan.ensures) in
    rw (p.1, p.2) (record { answer = whole.0; buffer = whole.1 })

pub returns-in_err-placed : goal.returns-in_err-placed
returns-in_err-placed c =
    let a = c.args in
    let p = err_from_is_err_and c.from_residual-in_err-placed.result c.from_residual-in_err-placed.ensures.1 in
    let whole = good-answer (Only Strings) (map pos a.names.now) a.buffer.now (c.cast_unsigned-number.ensures ∙ ap (of_z w32) (to_z-of_z {w = w32} c.ranges.codec)) (c.cast_unsigned-bytes.ensures ∙ ap (of_z w32) (to_z-of_z {w = w32} c.ranges.size)) (good (goal.at.returns-in_err-placed c).In_ok-plan) (one_form _ _ (row_is (goal.at.returns-in_err-placed c).In_ok-plan)) c.in_err-placed.ensures.answer c.in_err-placed.ensures.buffer refl refl in
    rw (p.1, p.2) (record { answer = whole.0; buffer = whole.1 })

pub finish-requires : goal.finish-requires
finish-requires c =
    let a = c.args in
    good-holds (Only Strings) (map pos a.names.now) a.buffer.now (c.cast_unsigned-number.ensures ∙ ap (of_z w32) (to_z-of_z {w = w32} c.ranges.codec)) (c.cast_unsigned-bytes.ensures ∙ ap (of_z w32) (to_z-of_z {w = w32} c.ranges.size)) (good (goal.at.finish-requires c).In_ok-plan) (one_form _ _ (row_is (goal.at.finish-requires c).In_ok-plan)) c.in_ok-placed.ensures.answer c.in_ok-placed.ensures.buffer

pub returns : goal.returns
returns c =
    let a = c.args in
    let whole = good-answer (Only Strings) (map pos a.names.now) a.buffer.now (c.cast_unsigned-number.ensures ∙ ap (of_z w32) (to_z-of_z {w = w32} c.ranges.codec)) (c.cast_unsigned-bytes.ensures ∙ ap (of_z w32) (to_z-of_z {w = w32} c.ranges.size)) (good (goal.at.returns c).In_ok-plan) (one_form _ _ (row_is (goal.at.returns c).In_ok-plan)) c.in_ok-placed.ensures.answer c.in_ok-placed.ensures.buffer (ap Ok c.finish.ensures.count) c.finish.ensures.buffer in
    record { answer = whole.0; buffer = whole.1 }
