-- By the header, then by the payload: the table's rows say that the kinds with cells are walked to (`cells-row`).
use mathlib.Core.Path.{◌≡◌, sym, ap, ◌∙◌}
use Rattle.std.specs.Prelude.{Ok}
use Rattle.std.proofs.lemmas.Result.{err_from_is_err_and}
use Rattle.refusal.specs.Outcome.{numbered}
use Rattle.numbers.specs.BigEndian.{unsigned_at}
use Rattle.columns.specs.declared.Wanted.TheVariants.{Any}
use Rattle.columns.specs.Header.{header_of}
use Rattle.columns.specs.Decode.{Decoding}
use Rattle.columns.proofs.Laws.Table.{Passes, header-passes}
use Rattle.columns.proofs.Laws.Decode.{decode-refused, decode-good}
use Rattle.cells.specs.Calls.{cell_of}
use Rattle.cells.specs.Laws.Table.{cells-row}
use Rattle.cells.specs.Laws.Calls.{cell-refused}
use Rattle.cells.proofs.cell_or_refusal.Goals as goal
use Rattle.cells.proofs.cell_or_refusal.Goals.{In_ok-header}

-- the header that passed
good : (c : goal.In_ok-header) → header_of Any c.args.column.now ≡ Ok c.in_ok-header.header
good c = sym c.read_header.ensures ∙ ap numbered c.in_ok-header.was

passed : (c : goal.In_ok-header) → Passes Any c.args.column.now c.in_ok-header.header.length c.in_ok-header.header.parameter c.in_ok-header.header.kind c.in_ok-header.header.form c.in_ok-header.header.delta
passed c = let h = c.in_ok-header.header in header-passes Any c.args.column.now h.length h.parameter h.kind h.form h.delta (good c)

pub slice_bounds-cell_in-count : goal.slice_bounds-cell_in-count
slice_bounds-cell_in-count c = (passed (goal.at.slice_bounds-cell_in-count c).In_ok-header).0

pub slice_bounds-cell_in-start : goal.slice_bounds-cell_in-start
slice_bounds-cell_in-start c = (passed (goal.at.slice_bounds-cell_in-start c).In_ok-header).0

pub cell_in-requires : goal.cell_in-requires
cell_in-requires c =
    let h = c.in_ok-header.header in
    let p = (passed (goal.at.cell_in-requires c).In_ok-header).3 in
    λ k. cells-row (unsigned_at 4 c.args.column.now 0) h.kind h.form h.delta p.0 p.1 k

pub returns-in_err-header : goal.returns-in_err-header
returns-in_err-header c =
    let a = c.args in
    let e = cell-refused _ _ a.index (decode-refused Any a.column.now _ (sym c.read_header.ensures ∙ ap numbered c.in_err-header.was)) in
    let p = err_from_is_err_and c.from_residual.result c.from_residual.ensures.1 in
    rw (p.1, p.2) e

pub returns : goal.returns
returns c =
    let a = c.args in
    let h = c.in_ok-header.header in
    let e = decode-good Any a.column.now h.length h.parameter h.kind h.form h.delta (good (goal.at.returns c).In_ok-header) in
    c.cell_in.ensures ∙ ap (λ (x : Decoding). cell_of x a.index) (sym e)
