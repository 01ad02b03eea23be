-- 18 and 19 by the payload's refusal, then 25, and the bits as they stand (`holds-done`).
use mathlib.Core.Path.{◌≡◌, refl, sym, ap, ap₂, ◌∙◌}
use mathlib.Core.Bool.{Bool, false}
use native.Mathlib.Omega.{arith}
use Rattle.std.specs.Prelude.{Ok}
use Rattle.refusal.specs.Outcome.{number_of}
use Rattle.steps.specs.declared.Size.TheVariants.{Four}
use Rattle.steps.specs.declared.Form.{Form}
use Rattle.steps.specs.declared.Form.TheVariants.{Plain}
use Rattle.columns.specs.declared.Kind.{Kind}
use Rattle.columns.specs.declared.Kind.TheVariants as kind
use Rattle.columns.specs.Header.{header_with}
use Rattle.columns.specs.Decode.{judged_payload}
use Rattle.payloads.specs.Scan.{refusal_of}
use Rattle.columns.specs.Table.{elements}
use Rattle.steps.specs.Payload.{held_in}
use Rattle.payloads.specs.Laws.Judged.{Holds, read-fine, holds-small, holds-done}
use Rattle.floats.specs.Calls.{exactly, float_bits}
use Rattle.floats.specs.Laws.Calls.{exactly-column}
use Rattle.floats.proofs.kept_in.Goals as goal
use Rattle.floats.proofs.kept_in.Goals.{Start, In_ok-refusal_of}

-- the header is one of codec 1
alike : (c : goal.Start) → exactly (judged_payload (Ok c.args.header) c.args.payload.now) ≡ exactly (judged_payload (header_with c.args.header.length c.args.header.parameter kind.Float32 (Plain Four) false) c.args.payload.now)
alike c =
    let h = c.args.header in
    let q = c.requires in
    ap (λ (k : Kind). exactly (judged_payload (header_with h.length h.parameter k h.form h.delta) c.args.payload.now)) q.0
    ∙ ap₂ (λ (f : Form) (d : Bool). exactly (judged_payload (header_with h.length h.parameter kind.Float32 f d) c.args.payload.now)) q.1 q.2

-- the column that is not refused
held : (c : goal.In_ok-refusal_of) → Holds c.args.header.length c.args.header.parameter kind.Float32 (Plain Four) false c.args.payload.now
held c =
    let h = c.args.header in
    read-fine h.length h.parameter kind.Float32 (Plain Four) false c.args.payload.now refl (sym (ap number_of c.in_ok-refusal_of.was) ∙ c.refusal_of.ensures ∙ ap (λ (f : Form). refusal_of (elements f h.length h.parameter) (held_in f h.parameter c.args.payload.now)) c.requires.1)

pub returns-then-buffer-n : goal.returns-then-buffer-n
returns-then-buffer-n c =
    let a = c.args in
    let i = a.header in
    let h = held (goal.at.returns-then-buffer-n c).In_ok-refusal_of in
    let q = alike (goal.at.returns-then-buffer-n c).Start ∙ exactly-column i.length i.parameter kind.Float32 (Plain Four) false a.payload.now h refl in
    let whole = holds-small float_bits i.length i.parameter kind.Float32 (Plain Four) false a.payload.now h (exactly (judged_payload (Ok i) a.payload.now)) q a.buffer.now c.if-buffer-n.true in
    record { answer = whole.0; buffer = whole.1 }

pub write_kept-requires : goal.write_kept-requires
write_kept-requires c = let h = held (goal.at.write_kept-requires c).In_ok-refusal_of in let n = h.2 in ((h.0, h.1, n), omega arith)

pub returns : goal.returns
returns c =
    let a = c.args in
    let i = a.header in
    let h = held (goal.at.returns c).In_ok-refusal_of in
    let q = alike (goal.at.returns c).Start ∙ exactly-column i.length i.parameter kind.Float32 (Plain Four) false a.payload.now h refl in
    let whole = holds-done float_bits i.length i.parameter kind.Float32 (Plain Four) false a.payload.now h (exactly (judged_payload (Ok i) a.payload.now)) q a.buffer.now c.if-buffer-n.false c.write_kept.new.buffer c.write_kept.ensures in
    record { answer = whole.0; buffer = whole.1 }
