-- Each arm is a loop of its form, or what a scan says (`outcome-scan`).
use Rattle.std.proofs.Common.{false, refl, ap, ◌∙◌}
use Rattle.refusal.specs.Outcome.{number_of}
use Rattle.steps.specs.declared.Size.TheVariants.{One, Two, Four}
use Rattle.steps.specs.declared.Form.TheVariants.{Plain, Packed, Runs}
use Rattle.steps.specs.Payload.{read_in}
use Rattle.payloads.specs.Items.{outcome_refusal}
use Rattle.payloads.specs.Laws.Refusal.{outcome-scan, refusal-held}
use Rattle.payloads.specs.Laws.Scan.{part-whole}
use Rattle.payloads.proofs.refusal_of.Goals as goal

pub returns-in-Packed-One : goal.returns-in-Packed-One
returns-in-Packed-One c =
    let a = c.args in
    refusal-held (Packed One) a.form a.size a.length a.payload.now (number_of c.count_packed.result) refl (c.in-Packed-One.is ∙ ap Packed (rw c.in-Packed-One.is at c.in-Packed-One.field-0-is)) (rw part-whole at c.count_packed.ensures)

pub returns-in-Packed-Two : goal.returns-in-Packed-Two
returns-in-Packed-Two c =
    let a = c.args in
    refusal-held (Packed Two) a.form a.size a.length a.payload.now (number_of c.count_packed-in-Packed-Two.result) refl (c.in-Packed-Two.is ∙ ap Packed (rw c.in-Packed-Two.is at c.in-Packed-Two.field-0-is)) (rw part-whole at c.count_packed-in-Packed-Two.ensures)

pub returns-in-Packed-Four : goal.returns-in-Packed-Four
returns-in-Packed-Four c =
    let a = c.args in
    refusal-held (Packed Four) a.form a.size a.length a.payload.now (number_of c.refusal_in.result) refl (c.in-Packed-Four.is ∙ ap Packed (rw c.in-Packed-Four.is at c.in-Packed-Four.field-0-is))
    (c.refusal_in.ensures ∙ ap outcome_refusal (rw part-whole at c.scan_packed.ensures) ∙ outcome-scan (Packed Four) false a.length (read_in (Packed Four) a.payload.now))

pub returns-in-Runs : goal.returns-in-Runs
returns-in-Runs c =
    let a = c.args in
    refusal-held (Runs c.in-Runs.range) a.form a.size a.length a.payload.now (number_of c.runs_refusal.result) refl c.in-Runs.is c.runs_refusal.ensures

pub returns-in-Plain : goal.returns-in-Plain
returns-in-Plain c =
    let a = c.args in
    let z = c.in-Plain.width in
    refusal-held (Plain z) a.form a.size a.length a.payload.now (number_of c.refusal_in-in-Plain.result) refl c.in-Plain.is (c.refusal_in-in-Plain.ensures ∙ ap outcome_refusal c.scan_plain.ensures ∙ outcome-scan (Plain z) false a.length (read_in (Plain z) a.payload.now))
