-- Each arm scans the payload of its form, and what is read is what is held (`scan-held`, `scan-names`).
use Rattle.std.proofs.Common.{refl, ap, ◌∙◌}
use Rattle.refusal.specs.Outcome.{numbered}
use Rattle.steps.specs.declared.Size.TheVariants.{One, Two, Four}
use Rattle.steps.specs.declared.Form.TheVariants.{Plain, Packed, Runs}
use Rattle.payloads.specs.Laws.Scan.{scan-held}
use Rattle.payloads.proofs.scan.Goals as goal

pub returns-in-Plain : goal.returns-in-Plain
returns-in-Plain c =
    let a = c.args in
    scan-held (Plain c.in-Plain.width) a.form a.delta a.size a.length a.payload.now (numbered c.scan_plain.result) refl c.in-Plain.is c.scan_plain.ensures

pub returns-in-Packed-One : goal.returns-in-Packed-One
returns-in-Packed-One c =
    let a = c.args in
    scan-held (Packed One) a.form a.delta a.size a.length a.payload.now (numbered c.scan_totals.result) refl (c.in-Packed-One.is ∙ ap Packed (rw c.in-Packed-One.is at c.in-Packed-One.field-0-is)) c.scan_totals.ensures

pub returns-in-Packed-Two : goal.returns-in-Packed-Two
returns-in-Packed-Two c =
    let a = c.args in
    scan-held (Packed Two) a.form a.delta a.size a.length a.payload.now (numbered c.scan_totals-in-Packed-Two.result) refl (c.in-Packed-Two.is ∙ ap Packed (rw c.in-Packed-Two.is at c.in-Packed-Two.field-0-is)) c.scan_totals-in-Packed-Two.ensures

pub returns-in-Packed-Four : goal.returns-in-Packed-Four
returns-in-Packed-Four c =
    let a = c.args in
    scan-held (Packed Four) a.form a.delta a.size a.length a.payload.now (numbered c.scan_packed.result) refl (c.in-Packed-Four.is ∙ ap Packed (rw c.in-Packed-Four.is at c.in-Packed-Four.field-0-is)) c.scan_packed.ensures

pub returns-in-Runs : goal.returns-in-Runs
returns-in-Runs c =
    let a = c.args in
    scan-held (Runs c.in-Runs.range) a.form a.delta a.size a.length a.payload.now (numbered c.scan_ranged.result) refl c.in-Runs.is c.scan_ranged.ensures
