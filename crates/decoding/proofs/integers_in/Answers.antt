-- The payload's refusal says what it decodes to (`read-fine`), and the writer writes it.
use mathlib.Core.Path.{sym, ap, ◌∙◌}
use native.Mathlib.Omega.{arith}
use Rattle.std.specs.Prelude.{Ok}
use Rattle.refusal.specs.Outcome.{number_of}
use Rattle.columns.specs.Decode.{judged_payload}
use Rattle.payloads.specs.Laws.Judged.{Holds, read-fine, holds-small, holds-done}
use Rattle.decoding.specs.Calls.{as_number}
use Rattle.decoding.specs.Laws.Table.{written-other}
use Rattle.decoding.proofs.integers_in.Goals as goal
use Rattle.decoding.proofs.integers_in.Goals.{In_ok-refusal_of}

-- the column that is not refused
held : (c : goal.In_ok-refusal_of) → Holds c.args.header.length c.args.header.parameter c.args.header.kind c.args.header.form c.args.header.delta c.args.payload.now
held c =
    let h = c.args.header in
    read-fine h.length h.parameter h.kind h.form h.delta c.args.payload.now (written-other h.form h.delta c.requires) (sym (ap number_of c.in_ok-refusal_of.was) ∙ c.refusal_of.ensures)

pub returns-then-buffer-n : goal.returns-then-buffer-n
returns-then-buffer-n c =
    let a = c.args in
    let h = a.header in
    let g = held (goal.at.returns-then-buffer-n c).In_ok-refusal_of in
    let whole = holds-small (λ k m. as_number) h.length h.parameter h.kind h.form h.delta a.payload.now g (judged_payload (Ok h) a.payload.now) g.3 a.buffer.now c.if-buffer-n.true in
    record { answer = whole.0; buffer = whole.1 }

pub put_integers-requires : goal.put_integers-requires
put_integers-requires c =
    let g = held (goal.at.put_integers-requires c).In_ok-refusal_of in
    let size = g.2 in
    (c.requires, (g.0, g.1, size), omega arith)

pub returns : goal.returns
returns c =
    let a = c.args in
    let h = a.header in
    let g = held (goal.at.returns c).In_ok-refusal_of in
    let whole = holds-done (λ k m. as_number) h.length h.parameter h.kind h.form h.delta a.payload.now g (judged_payload (Ok h) a.payload.now) g.3 a.buffer.now c.if-buffer-n.false c.put_integers.new.buffer c.put_integers.ensures in
    record { answer = whole.0; buffer = whole.1 }
