-- 18 and 19 by the payload's refusal, then 15 for strings and 28, and the number at the index as a cell (`cell-inside`).
use mathlib.Core.Path.{◌≡◌, refl, sym, ap, ◌∙◌}
use mathlib.Core.Bool.{false}
use native.Mathlib.Omega.{arith}
use mir.Syntax.{w32}
use mir.Facts.{to_z-of_z}
use denote.Enum.Bare.{sameb}
use Rattle.refusal.specs.Outcome.{number_of}
use Rattle.columns.specs.contracts.Kind.{the_type}
use Rattle.columns.specs.declared.Kind.{Kind}
use Rattle.columns.specs.declared.Kind.TheVariants as kind
use Rattle.columns.specs.Table.{is_strings}
use Rattle.payloads.specs.Laws.Judged.{Holds, read-fine}
use Rattle.cells.specs.Calls.{value_of}
use Rattle.cells.specs.Laws.Table.{direct-other}
use Rattle.cells.specs.Laws.Calls.{cell-past, cell-inside}
use Rattle.cells.proofs.cell_in.Goals as goal
use Rattle.cells.proofs.cell_in.Goals.{Else-eq}

-- all kinds but strings have cells
other : (k : Kind) → false ≡ sameb the_type k kind.Strings → is_strings k ≡ false
other kind.Float32 o = refl
other kind.FixedPoint o = refl
other kind.Int8 o = refl
other kind.Int16 o = refl
other kind.Int32 o = refl
other kind.Strings o = sym o
other kind.Chars o = refl

cells : (c : goal.Else-eq) → is_strings c.args.header.kind ≡ false
cells c = other c.args.header.kind c.if-eq.ensures

-- the column that is not refused
held : (c : goal.Else-eq) → Holds c.args.header.length c.args.header.parameter c.args.header.kind c.args.header.form c.args.header.delta c.args.payload.now
held c =
    let h = c.args.header in
    read-fine h.length h.parameter h.kind h.form h.delta c.args.payload.now (direct-other h.form h.delta (c.requires (cells c))) (sym (ap number_of c.in_ok-refusal_of.was) ∙ c.refusal_of.ensures)

pub returns-then-header-index : goal.returns-then-header-index
returns-then-header-index c =
    let h = c.args.header in
    let p = (goal.at.returns-then-header-index c).Else-eq in
    cell-past h.length h.parameter h.kind h.form h.delta c.args.payload.now (held p) c.args.index (cells p) c.if-header-index.true

pub number_in-number-requires : goal.number_in-number-requires
number_in-number-requires c =
    let p = (goal.at.number_in-number-requires c).Else-eq in
    let h = held p in
    let n = h.2 in
    let l = c.if-header-index.false in
    ((h.0, h.1, omega arith), c.requires (cells p))

pub returns : goal.returns
returns c =
    let a = c.args in
    let i = a.header in
    let p = (goal.at.returns c).Else-eq in
    let h = held p in
    let n = h.2 in
    let l = c.if-header-index.false in
    let v = to_z-of_z {w = w32} (record { sfits = c.number_in-number.type_inv }) in
    c.value_of.ensures ∙ ap (value_of i.kind i.parameter) v
    ∙ cell-inside i.length i.parameter i.kind i.form i.delta a.payload.now h a.index (cells p) c.number_in-number.result (c.number_in-number.ensures h.0 h.1 (omega arith)) l
