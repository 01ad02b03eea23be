-- A header that is refused refuses the column, and by one that passes the payload, which has no names, decides (`judged-read`,
-- `sums-judged`).
use Rattle.std.specs.Prelude.{Ok}
use Rattle.std.proofs.Common.{◌≡◌, ◌-◌, length, take, drop, sym, refl, ap, ◌∙◌}
use Rattle.refusal.specs.Table.{refusal_number}
use Rattle.refusal.specs.Outcome.{numbered}
use Rattle.columns.specs.Header.{header_size, header_of}
use Rattle.steps.specs.Payload.{read_in}
use Rattle.columns.specs.declared.Kind.TheVariants.{Int32}
use Rattle.columns.specs.declared.Wanted.TheVariants.{Only}
use Rattle.columns.proofs.Laws.Table.{Passes, header-passes, no_names}
use Rattle.columns.proofs.Laws.Decode.{decode-refused, decode-good}
use Rattle.payloads.specs.Laws.Judged.{judged-read}
use Rattle.file_columns.specs.Cells.{sums_of}
use Rattle.file_columns.specs.Laws.Exits.{ok_some, ok_none}
use Rattle.file_columns.specs.Laws.Passing.{sums-judged, hold-true}
use Rattle.file_columns.proofs.whole.totals.Goals as goal
use Rattle.file_columns.proofs.whole.totals.Goals.{In_ok-header}

-- the header that passed
known : (c : In_ok-header) → header_of (Only Int32) c.args.column.now ≡ Ok c.in_ok-header.header
known c = sym c.read_header.ensures ∙ ap numbered (ok_some c.read_header.result c.in_ok-header.header c.in_ok-header.ensures.value)

passed : (c : In_ok-header)
    → Passes (Only Int32) c.args.column.now c.in_ok-header.header.length c.in_ok-header.header.parameter c.in_ok-header.header.kind c.in_ok-header.header.form c.in_ok-header.header.delta
passed c =
    let h = c.in_ok-header.header in
    header-passes (Only Int32) c.args.column.now h.length h.parameter h.kind h.form h.delta (known c)

pub slice_bounds-sums_of-count : goal.slice_bounds-sums_of-count
slice_bounds-sums_of-count c = (passed c).0

pub slice_bounds-sums_of-start : goal.slice_bounds-sums_of-start
slice_bounds-sums_of-start c = (passed c).0

pub sums_of-requires : goal.sums_of-requires
sums_of-requires c =
    let a = c.args in
    (hold-true a.types a.atoms.now a.bonds.now (sym c.hold.ensures ∙ c.if-not-hold.false), (passed (goal.at.sums_of-requires c).In_ok-header).1)

pub returns-in_err-header : goal.returns-in_err-header
returns-in_err-header c =
    let a = c.args in
    let d = ok_none c.read_header.result c.in_err-header.ensures.value in
    let e = decode-refused (Only Int32) a.column.now (refusal_number d.0) (sym c.read_header.ensures ∙ ap numbered d.1) in
    rw c.from_residual.ensures (sym (ap (sums_of a.types a.atoms.now a.bonds.now) e))

pub returns : goal.returns
returns c =
    let a = c.args in
    let h = c.in_ok-header.header in
    let p = passed (goal.at.returns c).In_ok-header in
    let payload = take (length a.column.now - header_size) (drop header_size a.column.now) in
    let other = no_names (Only Int32) a.column.now h.length h.parameter h.kind h.form h.delta p refl in
    let e = decode-good (Only Int32) a.column.now h.length h.parameter h.kind h.form h.delta (known (goal.at.returns c).In_ok-header) ∙ judged-read h.length h.parameter h.kind h.form h.delta payload other in
    let enough = sym c.hold.ensures ∙ c.if-not-hold.false in
    c.sums_of.ensures ∙ sym (ap (sums_of a.types a.atoms.now a.bonds.now) e ∙ sums-judged a.types a.atoms.now a.bonds.now h.length h.parameter h.kind h.delta (read_in h.form payload) enough)
