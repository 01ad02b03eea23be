-- The header's refusal, or the payload's answer.
use borrow.Author.Rules.{rules}
use mathlib.Core.Path.{◌≡◌, sym, ap, ◌∙◌}
use Prim.Native.Nat.{◌≤◌}
use lib.ListN.{length}
use Rattle.std.specs.Prelude.{Ok}
use Rattle.std.proofs.lemmas.Result.{err_from_is_err_and}
use Rattle.refusal.specs.Outcome.{numbered}
use Rattle.numbers.specs.BigEndian.{unsigned_at}
use Rattle.columns.specs.Header.{header_size, header_of}
use Rattle.columns.specs.Decode.{Decoding, decode}
use Rattle.columns.proofs.Laws.Table.{Passes, header-passes, no_names}
use Rattle.columns.proofs.Laws.Decode.{decode-refused, decode-good}
use Rattle.columns.specs.Buffer.{decoded_answer}
use Rattle.columns.proofs.Laws.Buffer.{answers-refused}
use Rattle.payloads.specs.Laws.Scan.{part-whole}
use Rattle.decoding.specs.Calls.{as_number, number_buffer}
use Rattle.decoding.specs.Laws.Table.{written_row}
use Rattle.decoding.proofs.decode_integers.Goals as goal
use Rattle.decoding.proofs.decode_integers.Goals.{In_ok-header}

-- the header that passed
good : (c : goal.In_ok-header) → header_of c.args.wanted c.args.column.now ≡ Ok c.in_ok-header.header
good c = sym (rw part-whole at c.read_header.ensures) ∙ ap numbered c.in_ok-header.was

passes : (c : goal.In_ok-header)
    → Passes c.args.wanted c.args.column.now c.in_ok-header.header.length c.in_ok-header.header.parameter c.in_ok-header.header.kind c.in_ok-header.header.form c.in_ok-header.header.delta
passes c = let h = c.in_ok-header.header in header-passes c.args.wanted c.args.column.now h.length h.parameter h.kind h.form h.delta (good c)

long : (c : goal.In_ok-header) → header_size ≤ length c.args.column.now
long c = (passes c).0

pub slice_bounds-integers_in-count : goal.slice_bounds-integers_in-count
slice_bounds-integers_in-count c = let h = long (goal.at.slice_bounds-integers_in-count c).In_ok-header in search rules

pub slice_bounds-integers_in-start : goal.slice_bounds-integers_in-start
slice_bounds-integers_in-start c = long (goal.at.slice_bounds-integers_in-start c).In_ok-header

pub integers_in-requires : goal.integers_in-requires
integers_in-requires c =
    let a = c in
    let h = c.in_ok-header.header in
    let e = passes (goal.at.integers_in-requires c).In_ok-header in
    written_row (unsigned_at 4 a.args.column.now 0) h.kind h.form h.delta e.3.0 e.3.1 (no_names a.args.wanted a.args.column.now h.length h.parameter h.kind h.form h.delta e a.requires)

pub returns-in_err-header : goal.returns-in_err-header
returns-in_err-header c =
    let a = c.args in
    let e = decode-refused a.wanted a.column.now _ (sym (rw part-whole at c.read_header.ensures) ∙ ap numbered c.in_err-header.was) in
    let whole = answers-refused (λ k m. as_number) (decode a.wanted a.column.now) a.buffer.now _ e in
    let p = err_from_is_err_and c.from_residual.result c.from_residual.ensures.1 in
    record { answer = rw (p.1, p.2) whole.0; buffer = whole.1 }

pub returns : goal.returns
returns c =
    let a = c.args in
    let h = c.in_ok-header.header in
    let e = decode-good a.wanted a.column.now h.length h.parameter h.kind h.form h.delta (good (goal.at.returns c).In_ok-header) in
    let r = c.integers_in.ensures in
    record { answer = r.answer ∙ sym (ap (λ (x : Decoding). decoded_answer x (length a.buffer.now)) e); buffer = r.buffer ∙ sym (ap (λ (x : Decoding). number_buffer x a.buffer.now) e) }
