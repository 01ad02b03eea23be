-- The payload's refusal says what it decodes to: names are their bytes (`names-bytes`), and the writer writes characters.
use mathlib.Core.Path.{◌≡◌, refl, sym, ap, ap₂, ◌∙◌}
use mathlib.Core.Bool.{Bool, false}
use native.Mathlib.Omega.{arith}
use lib.IntN.{pos}
use Rattle.std.specs.Prelude.{Ok}
use Rattle.refusal.specs.Outcome.{number_of}
use Rattle.numbers.specs.Laws.BigEndian.{bytes-of}
use Rattle.steps.specs.declared.Size.TheVariants.{One}
use Rattle.steps.specs.declared.Range.TheVariants.{Ascii}
use Rattle.steps.specs.declared.Form.{Form}
use Rattle.steps.specs.declared.Form.TheVariants.{Runs, Names}
use Rattle.steps.specs.Numbers.{numbers_in}
use Rattle.steps.specs.Delta.{sums_if}
use Rattle.steps.specs.Payload.{held_in}
use Rattle.steps.proofs.Laws.Names.{names-length}
use Rattle.steps.proofs.Laws.Delta.{results-plain}
use Rattle.steps.proofs.Laws.PayloadBack.{held_in-read}
use Rattle.columns.specs.Header.{header_with}
use Rattle.columns.specs.Decode.{column, judged_payload}
use Rattle.columns.proofs.Laws.Buffer.{answers-small, answers-done}
use Rattle.payloads.specs.Laws.Judged.{Holds, judged-fine, read-fine, holds-small, holds-done}
use Rattle.decoding.specs.Calls.{as_byte}
use Rattle.decoding.specs.Steps.{has_bytes}
use Rattle.decoding.specs.Laws.Table.{bytes-names, bytes-chars}
use Rattle.decoding.specs.Laws.Names.{names-read, names-bytes}
use Rattle.decoding.proofs.bytes_in.Goals as goal
use Rattle.decoding.proofs.bytes_in.Goals.{In-Names, In_default}

-- names that are not refused
names : (c : goal.In-Names) → judged_payload (Ok c.args.header) c.args.payload.now ≡ column c.args.header.kind c.args.header.parameter (numbers_in One c.args.payload.now)
names c =
    let a = c.args in
    let h = a.header in
    let f = c.in-Names.is in
    let d = bytes-names h.delta (sym (ap (λ (i : Form). has_bytes i h.delta) f) ∙ c.requires) in
    let g = judged-fine h.length h.parameter h.kind h.form h.delta a.payload.now (sym (ap number_of c.in_ok-refusal_of.was) ∙ c.refusal_of.ensures) in
    let r = held_in-read Names h.parameter a.payload.now g.0 (sym (ap (λ (i : Form). held_in i h.parameter a.payload.now) f) ∙ g.1) in
    g.3 ∙ ap (column h.kind h.parameter) (ap (λ (t : Bool). sums_if t g.0) d ∙ results-plain (pos 0) g.0 ∙ names-read a.payload.now g.0 r)

-- characters that are not refused
chars : (c : goal.In_default) → Holds c.args.header.length c.args.header.parameter c.args.header.kind (Runs Ascii) false c.args.payload.now
chars c =
    let a = c.args in
    let h = a.header in
    let o = bytes-chars h.form h.delta c.requires c.in_default.not-Names in
    read-fine h.length h.parameter h.kind (Runs Ascii) false a.payload.now refl (sym (ap number_of c.in_ok-refusal_of.was) ∙ rw o.0 at c.refusal_of.ensures)

-- the column of their header
whole : (c : goal.In_default) → judged_payload (Ok c.args.header) c.args.payload.now ≡ judged_payload (header_with c.args.header.length c.args.header.parameter c.args.header.kind (Runs Ascii) false) c.args.payload.now
whole c =
    let h = c.args.header in
    let o = bytes-chars h.form h.delta c.requires c.in_default.not-Names in
    ap₂ (λ (f : Form) (d : Bool). judged_payload (header_with h.length h.parameter h.kind f d) c.args.payload.now) o.0 o.1

pub returns-then-buffer-payload : goal.returns-then-buffer-payload
returns-then-buffer-payload c =
    let a = c.args in
    let h = a.header in
    let size = names-length a.payload.now in
    let w = answers-small (λ k m. as_byte) (judged_payload (Ok h) a.payload.now) a.buffer.now h.kind h.parameter (numbers_in One a.payload.now) (names (goal.at.returns-then-buffer-payload c).In-Names) (omega arith) in
    record { answer = w.0; buffer = w.1 }

pub returns-else-buffer-payload : goal.returns-else-buffer-payload
returns-else-buffer-payload c =
    let a = c.args in
    let h = a.header in
    let size = names-length a.payload.now in
    let b = bytes-of a.payload.now (λ i. (c.type_inv.payload i).fits) in
    let new = c.copy.new.buffer in
    let w = names-bytes a.payload.now a.buffer.now new b c.copy.ensures in
    let r = answers-done (λ k m. as_byte) (judged_payload (Ok h) a.payload.now) a.buffer.now h.kind h.parameter (numbers_in One a.payload.now) (names (goal.at.returns-else-buffer-payload c).In-Names) (omega arith) new w in
    record { answer = ap Ok (sym size) ∙ r.0; buffer = r.1 }

pub returns-then-buffer-n : goal.returns-then-buffer-n
returns-then-buffer-n c =
    let a = c.args in
    let h = a.header in
    let p = (goal.at.returns-then-buffer-n c).In_default in
    let g = chars p in
    let w = holds-small (λ k m. as_byte) h.length h.parameter h.kind (Runs Ascii) false a.payload.now g (judged_payload (Ok h) a.payload.now) (whole p ∙ g.3) a.buffer.now c.if-buffer-n.true in
    record { answer = w.0; buffer = w.1 }

pub write_chars-requires : goal.write_chars-requires
write_chars-requires c = let g = chars (goal.at.write_chars-requires c).In_default in let n = g.2 in ((g.0, g.1, n), omega arith)

pub returns-else-buffer-n : goal.returns-else-buffer-n
returns-else-buffer-n c =
    let a = c.args in
    let h = a.header in
    let p = (goal.at.returns-else-buffer-n c).In_default in
    let g = chars p in
    let w = holds-done (λ k m. as_byte) h.length h.parameter h.kind (Runs Ascii) false a.payload.now g (judged_payload (Ok h) a.payload.now) (whole p ∙ g.3) a.buffer.now c.if-buffer-n.false c.write_chars.new.buffer c.write_chars.ensures in
    record { answer = w.0; buffer = w.1 }
