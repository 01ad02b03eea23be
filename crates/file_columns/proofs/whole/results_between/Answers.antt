-- Each arm says it of the payload by its form (`pass-as`).
use Rattle.std.proofs.Common.{◌≡◌, Bool, false, refl, ap, ◌∙◌, to_z-of_z, w32, to_z, of_z}
use Rattle.numbers.specs.Ranges.{between}
use Rattle.steps.specs.declared.Size.TheVariants.{One, Two, Four}
use Rattle.steps.specs.declared.Form.{Form}
use Rattle.steps.specs.declared.Form.TheVariants.{Plain, Packed, Runs, Names}
use Rattle.steps.specs.Payload.{read_in, held_in}
use Rattle.columns.specs.Table.{elements, is_names}
use Rattle.file_columns.specs.Passing.{held_pass}
use Rattle.file_columns.specs.Laws.Passing.{pass-as}
use Rattle.file_columns.proofs.whole.results_between.Goals as goal
use Rattle.file_columns.proofs.whole.results_between.Goals.{Start, in_default-via-in-Plain-One+else-not-delta, in_default-via-in-Plain-Two+else-not-delta-2, in_default-via-in-Plain-Four+else-not-delta-3, in_default-via-in_default}

-- an arm's answer for its form is that for the form that is given
arm : (c : Start) (r : Bool) (f : Form) → is_names f ≡ false → c.args.form ≡ f
    → r ≡ held_pass (between (to_z w32 (of_z w32 c.args.low)) (to_z w32 (of_z w32 c.args.high))) c.args.n c.args.delta (read_in f c.args.payload.now)
    → r ≡ held_pass (between c.args.low c.args.high) (elements c.args.form c.args.n c.args.size) c.args.delta (held_in c.args.form c.args.size c.args.payload.now)
arm c r f o e h =
    let a = c in
    pass-as (between a.args.low a.args.high) f a.args.form a.args.size a.args.n a.args.delta a.args.payload.now r o e
    (rw (to_z-of_z {w = w32} a.ranges.low, to_z-of_z {w = w32} a.ranges.high) at h)

-- a form that is not that of names
other : (f : Form) → (f ≡ Names → ⊥) → is_names f ≡ false
other (Plain s) h = refl
other (Packed s) h = refl
other (Runs s) h = refl
other Names h = absurd (h refl)

pub returns-in-Plain-One : goal.returns-in-Plain-One
returns-in-Plain-One c = arm (goal.at.returns-in-Plain-One c).Start c.plain_between.result (Plain One) refl (c.in-Plain-One.is ∙ ap Plain (rw c.in-Plain-One.is at c.in-Plain-One.field-0-is)) (rw c.if-not-delta.true c.plain_between.ensures)

pub returns-in-Plain-Two : goal.returns-in-Plain-Two
returns-in-Plain-Two c = arm (goal.at.returns-in-Plain-Two c).Start c.plain_between-in-Plain-Two.result (Plain Two) refl (c.in-Plain-Two.is ∙ ap Plain (rw c.in-Plain-Two.is at c.in-Plain-Two.field-0-is)) (rw c.if-not-delta-2.true c.plain_between-in-Plain-Two.ensures)

pub returns-in-Plain-Four : goal.returns-in-Plain-Four
returns-in-Plain-Four c = arm (goal.at.returns-in-Plain-Four c).Start c.plain_between-in-Plain-Four.result (Plain Four) refl (c.in-Plain-Four.is ∙ ap Plain (rw c.in-Plain-Four.is at c.in-Plain-Four.field-0-is)) (rw c.if-not-delta-3.true c.plain_between-in-Plain-Four.ensures)

pub returns-in_default : goal.returns-in_default
returns-in_default c =
    let o : is_names c.args.form ≡ false =
    elim c.in_default.branch [ in_default-via-in-Plain-One+else-not-delta w ↦ ap is_names w.in-Plain-One.is | in_default-via-in-Plain-Two+else-not-delta-2 w ↦ ap is_names w.in-Plain-Two.is | in_default-via-in-Plain-Four+else-not-delta-3 w ↦ ap is_names w.in-Plain-Four.is | in_default-via-in_default w ↦ other c.args.form w.in_default.not-Names ] in
    arm (goal.at.returns-in_default c).Start c.items_between.result c.args.form o refl c.items_between.ensures
