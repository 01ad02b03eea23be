-- 16 by the size of names, else the header's refusal, or that of the payload; a column that is not refused has the length that was read
-- (`checked-fine`).
use Rattle.std.proofs.Common.{◌≡◌, ◌-◌, false, length, take, drop, sym, ◌∙◌}
use Rattle.std.proofs.lemmas.Result.{err_from_is_err_and}
use Rattle.refusal.specs.Table.{refusal_number}
use Rattle.columns.specs.Header.{header_size}
use Rattle.columns.proofs.Laws.Table.{Passes, header-passes}
use Rattle.payloads.specs.Laws.Judged.{judged-refused, judged-fine}
use Rattle.file_columns.specs.Field.{other_names}
use Rattle.file_columns.specs.Laws.Exits.{some_number}
use Rattle.file_columns.specs.Laws.Field.{field-other, field-refused, field-good, checked_refused, checked-fine}
use Rattle.file_columns.proofs.whole.check.Goals as goal
use Rattle.file_columns.proofs.whole.check.Goals.{Else-has_other_names, In_ok-header}

-- the header that passed
passed : (c : In_ok-header)
    → Passes c.args.wanted c.args.column.now c.in_ok-header.header.length c.in_ok-header.header.parameter c.in_ok-header.header.kind c.in_ok-header.header.form c.in_ok-header.header.delta
passed c =
    let h = c.in_ok-header.header in
    header-passes c.args.wanted c.args.column.now h.length h.parameter h.kind h.form h.delta (sym c.in_ok-header.ensures)

-- names have no other size
same : (c : Else-has_other_names) → other_names c.args.wanted c.args.column.now ≡ false
same c = sym c.has_other_names.ensures ∙ c.if-has_other_names.false

pub returns-then-has_other_names : goal.returns-then-has_other_names
returns-then-has_other_names c = let a = c.args in sym (checked_refused _ _ (field-other a.wanted a.column.now (sym c.has_other_names.ensures ∙ c.if-has_other_names.true)))

pub slice_bounds-refusal_of-count : goal.slice_bounds-refusal_of-count
slice_bounds-refusal_of-count c = (passed c).0

pub slice_bounds-refusal_of-start : goal.slice_bounds-refusal_of-start
slice_bounds-refusal_of-start c = (passed c).0

pub returns-in_err-header : goal.returns-in_err-header
returns-in_err-header c =
    let a = c.args in
    let e = err_from_is_err_and c.from_residual.result c.from_residual.ensures.1 in
    rw (e.1, e.2) (sym (checked_refused _ (refusal_number c.in_err-header.field-0.0) (field-refused a.wanted a.column.now (same (goal.at.returns-in_err-header c).Else-has_other_names) (refusal_number c.in_err-header.field-0.0) (sym c.in_err-header.ensures))))

pub returns-in_err-refusal_of : goal.returns-in_err-refusal_of
returns-in_err-refusal_of c =
    let a = c.args in
    let h = c.in_ok-header.header in
    let r = refusal_number c.in_err-refusal_of.field-0.0 in
    let payload = take (length a.column.now - header_size) (drop header_size a.column.now) in
    let e = err_from_is_err_and c.from_residual-in_err-refusal_of.result c.from_residual-in_err-refusal_of.ensures.1 in
    rw (e.1, e.2)
    (sym (checked_refused _ r
    (field-good a.wanted a.column.now (same (goal.at.returns-in_err-refusal_of c).Else-has_other_names) h.length h.parameter h.kind h.form h.delta (sym c.in_ok-header.ensures)
    ∙ judged-refused h.length h.parameter h.kind h.form h.delta payload r c.in_err-refusal_of.ensures (some_number c.in_err-refusal_of.field-0.0))))

pub returns : goal.returns
returns c =
    let a = c.args in
    let h = c.in_ok-header.header in
    let payload = take (length a.column.now - header_size) (drop header_size a.column.now) in
    let q = sym c.in_ok-header.ensures in
    let g = judged-fine h.length h.parameter h.kind h.form h.delta payload c.in_ok-refusal_of.ensures in
    checked-fine a.wanted a.column.now h.length h.parameter h.kind h.form h.delta _ q (field-good a.wanted a.column.now (same (goal.at.returns c).Else-has_other_names) h.length h.parameter h.kind h.form h.delta q ∙ g.3)
