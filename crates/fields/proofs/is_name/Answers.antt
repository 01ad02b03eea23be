-- The lengths are compared first; a name is a part of the table, and the two parts are compared.
use mathlib.Core.Path.{◌≡◌, sym, ap, ◌∙◌}
use mathlib.Core.List.{List}
use Prim.Native.Nat.{ℕ, ◌+◌, ◌-◌}
use native.Mathlib.Omega.{arith}
use lib.ListN.{length, take, drop}
use Rattle.text.specs.Equal.{equal}
use Rattle.heads.proofs.Laws.Span.{part_length_lem}
use Rattle.fields.specs.Numbers.{type_table, row_at, table_byte}
use Rattle.fields.specs.Laws.Numbers.{table-length, name-long, name-sized, name-part}
use Rattle.fields.proofs.is_name.Goals as goal

pub returns-then-m-cell : goal.returns-then-m-cell
returns-then-m-cell c =
    let a = c.args in
    sym (name-long a.file.now a.a a.m a.row c.requires.1.0 (λ e. c.if-m-cell.true (e ∙ sym c.cell.ensures.is)))

pub slice_bounds-same_words-end-2 : goal.slice_bounds-same_words-end-2
slice_bounds-same_words-end-2 c =
    let a = c.args in
    omega (arith, c.if-m-cell.false, c.cell.ensures.is, (name-sized a.row c.requires.1.1).1)

pub same_words-requires : goal.same_words-requires
same_words-requires c =
    let a = c.args in
    let name = row_at a.row + 3 in
    let sized = name-sized a.row c.requires.1.1 in
    let same : a.m ≡ table_byte (row_at a.row) = c.if-m-cell.false ∙ c.cell.ensures.is in
    let long : length a.types.now ≡ 1389 = ap length c.requires.0 ∙ table-length in
    let x = part_length_lem a.file.now a.a (a.a + a.m - a.a) (omega arith) in
    let y = part_length_lem a.types.now name (name + a.m - name) (omega (arith, sized.1)) in
    (omega (arith, x, y), omega (arith, x, sized.0))

pub returns : goal.returns
returns c =
    let a = c.args in
    let name = row_at a.row + 3 in
    let same : a.m ≡ table_byte (row_at a.row) = c.if-m-cell.false ∙ c.cell.ensures.is in
    let key : a.a + a.m - a.a ≡ a.m = omega arith in
    let part : name + a.m - name ≡ a.m = omega arith in
    (rw (key, part) at c.same_words.ensures) ∙ ap (λ (z : List ℕ). equal (take a.m (drop a.a a.file.now)) z) (ap (λ (t : List ℕ). take a.m (drop name t)) c.requires.0 ∙ ap (λ (n : ℕ). take n (drop name type_table)) same ∙ name-part a.row c.requires.1.1)
