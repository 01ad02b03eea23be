-- The types are judged and counted; then their sums over the groups.
use mathlib.Core.Path.{◌≡◌, refl, sym, ap, ap₂, ◌∙◌}
use Prim.Native.Nat.{ℕ, ◌/◌}
use native.Mathlib.Omega.{arith}
use Rattle.std.proofs.lemmas.Result.{err_from_is_err_and}
use Rattle.refusal.specs.Table.{refusal_number}
use Rattle.messagepack.specs.Document.{count}
use Rattle.file_columns.specs.Laws.Exits.{some_number}
use Rattle.values.specs.Parts.{items_of, items_in}
use Rattle.std.specs.Prelude.{Option as Answer, unwrap_or}
use Rattle.text.specs.Equal.{equal}
use Rattle.fields.specs.Table.{named}
use Rattle.fields.specs.Fields.{field, find_row, is_required}
use Rattle.file_columns.specs.Laws.Columns.{right-named}
use Rattle.counts.specs.Group.{atoms_of, bonds_of}
use Rattle.counts.specs.GroupPlaces.{agrees}
use Rattle.counts.specs.Counts.{counted_of}
use Rattle.counts.proofs.Laws.Tables.{filled-each}
use Rattle.counts.proofs.Laws.Steps.{says-named, here-named, stands-named, groups-refused, groups-fine, totals-are, pairs-cells, agree-cells}
use Rattle.counts.proofs.types_refusal.Goals as goal
use Rattle.counts.proofs.types_refusal.Goals.{then-atoms-n-via-then-atoms-n, then-atoms-n-via-else-atoms-n+then-bonds-n}

pub returns-then-atoms-n : goal.returns-then-atoms-n
unfolding find_row is_required equal named
returns-then-atoms-n c =
    λ es f k enough.
    let g = stands-named f "groupList" refl refl refl in
    let i : items_of g.x ≡ (counted_of es).groupList = ap items_in (sym g.is) in
    let m = c.items_at-list.ensures.says g.x g.end g.at in
    let c-is = ap count i in
    elim c.then-atoms-n.branch [ then-atoms-n-via-then-atoms-n w ↦ absurd (omega (arith, enough.0, m.counts)) | then-atoms-n-via-else-atoms-n+then-bonds-n w ↦ absurd (omega (arith, enough.1, m.counts)) ]

pub returns-in_err-fill_tables : goal.returns-in_err-fill_tables
unfolding find_row is_required equal named
returns-in_err-fill_tables c =
    λ es f k enough.
    let g = stands-named f "groupList" refl refl refl in
    let i : items_of g.x ≡ (counted_of es).groupList = ap items_in (sym g.is) in
    let m = c.items_at-list.ensures.says g.x g.end g.at in
    let e = err_from_is_err_and c.from_residual.result c.from_residual.ensures.1 in
    rw (e.1, e.2) (groups-refused (counted_of es) (refusal_number c.in_err-fill_tables.field-0.0) (some_number c.in_err-fill_tables.field-0.0) (rw i at (c.in_err-fill_tables.ensures.number f.short (items_of g.x) m.end m.all m.counts)))

pub returns : goal.returns
unfolding find_row is_required equal named
returns c =
    λ es f k enough.
    let g = stands-named f "groupList" refl refl refl in
    let i : items_of g.x ≡ (counted_of es).groupList = ap items_in (sym g.is) in
    let start = c in
    let m = c.items_at-list.ensures.says g.x g.end g.at in
    let ty = sym m.counts ∙ ap count i in
    let s = c.fill_tables.ensures in
    let la = c.if-atoms-n.false in
    let lb = c.if-bonds-n.false in
    let z = sym (c.in_ok-fill_tables.ensures.number f.short (items_of g.x) m.end m.all m.counts) in
    let atoms = filled-each atoms_of (items_of g.x) start.args.atoms.now (s.atoms f.short (items_of g.x) m.end m.all m.counts) z (omega (arith, m.counts, la)) in
    let bonds = filled-each bonds_of (items_of g.x) start.args.bonds.now (s.bonds f.short (items_of g.x) m.end m.all m.counts) z (omega (arith, m.counts, lb)) in
    let here = here-named f "groupTypeList" refl refl refl in
    let sums = c.totals-sums.ensures (field "groupTypeList" es) (says-named f "groupTypeList" refl refl) here (right-named es f.right "groupTypeList" refl) (omega (arith, la, c.atoms-1.given), omega (arith, lb, c.bonds-1.given)) in
    let outer = c.length_at-outer.ensures (field "bondAtomList" es) (says-named f "bondAtomList" refl refl) (right-named es f.right "bondAtomList" refl) in
    let orders = c.length_at-orders.ensures (field "bondOrderList" es) (says-named f "bondOrderList" refl refl) (right-named es f.right "bondOrderList" refl) in
    let p = ap (λ (v : Answer ℕ). unwrap_or v 0 / 2) outer ∙ pairs-cells (field "bondAtomList" es) (right-named es f.right "bondAtomList" refl) in
    let b = ap₂ (λ (u v : Answer ℕ). agrees u v) outer orders ∙ agree-cells (field "bondAtomList" es) (field "bondOrderList" es) (right-named es f.right "bondAtomList" refl) (right-named es f.right "bondOrderList" refl) in
    let a = totals-are (counted_of es) start.args.counts c.totals-sums.result c.length_at-outer.result c.length_at-orders.result _ _ k (rw ty at sums) (rw i at atoms) (rw i at bonds) p b in
    c.totals_refusal.ensures ∙ a ∙ groups-fine (counted_of es) (rw i at z)
