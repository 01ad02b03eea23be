-- A header that is refused refuses the column, and by one that passes the payload decides (`pass-judged`).
use Rattle.std.proofs.Common.{◌-◌, length, take, drop, sym, ap, ◌∙◌, to_z-of_z, w32}
use Rattle.numbers.specs.Ranges.{between}
use Rattle.steps.specs.Payload.{held_in}
use Rattle.refusal.specs.Table.{refusal_number}
use Rattle.columns.specs.Header.{header_size}
use Rattle.columns.specs.Table.{elements}
use Rattle.columns.proofs.Laws.Table.{Passes, header-passes}
use Rattle.columns.proofs.Laws.Decode.{decode-refused, decode-good}
use Rattle.file_columns.specs.Cells.{cells_pass}
use Rattle.file_columns.specs.Laws.Passing.{pass-judged}
use Rattle.file_columns.proofs.whole.all_between.Goals as goal
use Rattle.file_columns.proofs.whole.all_between.Goals.{In-Ok}

-- the header that passed
passed : (c : In-Ok)
    → Passes c.args.wanted c.args.column.now c.in-Ok.header.length c.in-Ok.header.parameter c.in-Ok.header.kind c.in-Ok.header.form c.in-Ok.header.delta
passed c =
    let a = c.args in
    header-passes a.wanted a.column.now c.in-Ok.header.length c.in-Ok.header.parameter c.in-Ok.header.kind c.in-Ok.header.form c.in-Ok.header.delta (sym c.in-Ok.ensures)

pub slice_bounds-results_between-count : goal.slice_bounds-results_between-count
slice_bounds-results_between-count c = (passed c).0

pub slice_bounds-results_between-start : goal.slice_bounds-results_between-start
slice_bounds-results_between-start c = (passed c).0

pub returns-in-Err : goal.returns-in-Err
returns-in-Err c =
    let a = c.args in
    sym (ap (cells_pass (between a.low a.high)) (decode-refused a.wanted a.column.now (refusal_number c.in-Err.field-0) (sym c.in-Err.ensures)))

pub returns-in-Ok : goal.returns-in-Ok
returns-in-Ok c =
    let a = c in
    let payload = take (length a.args.column.now - header_size) (drop header_size a.args.column.now) in
    let test = between a.args.low a.args.high in
    let h = rw (to_z-of_z {w = w32} a.ranges.low, to_z-of_z {w = w32} a.ranges.high) at c.results_between.ensures in
    let e = decode-good a.args.wanted a.args.column.now c.in-Ok.header.length c.in-Ok.header.parameter c.in-Ok.header.kind c.in-Ok.header.form c.in-Ok.header.delta (sym c.in-Ok.ensures) in
    h ∙ sym (ap (cells_pass test) e ∙ pass-judged test (elements c.in-Ok.header.form c.in-Ok.header.length c.in-Ok.header.parameter) c.in-Ok.header.parameter c.in-Ok.header.kind c.in-Ok.header.delta (held_in c.in-Ok.header.form c.in-Ok.header.parameter payload))
