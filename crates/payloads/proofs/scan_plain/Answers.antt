-- The count of plain numbers is the payload's size (`plain_other`, `plain-right`).
use Rattle.std.specs.Prelude.{Ok}
use Rattle.std.proofs.Common.{ℕ, ◌/◌, length, sym, ap, ◌∙◌}
use Rattle.payloads.specs.Laws.Plain.{plain_other, plain-right}
use Rattle.payloads.proofs.scan_plain.Goals as goal

pub returns-then-payload-k : goal.returns-then-payload-k
returns-then-payload-k c =
    let a = c.args in
    sym (plain_other a.size a.delta a.payload.now a.length (λ e. c.if-payload-k.true (ap (λ (k : ℕ). length a.payload.now / k) c.bytes-k.ensures ∙ e)))

pub returns : goal.returns
returns c =
    let a = c.args in
    let l = sym (ap (λ (k : ℕ). length a.payload.now / k) c.bytes-k.ensures) ∙ c.if-payload-k.false in
    ap Ok c.judges_exact.ensures ∙ sym (plain-right a.size a.delta a.payload.now a.length l)
