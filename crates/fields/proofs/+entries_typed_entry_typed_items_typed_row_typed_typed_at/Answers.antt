-- A value is judged by its type's numbers, the values of an array and the entries of a map by loops whose invariants say that what is left from
-- here on decides. The levels left fall with each array and map.
use mathlib.Core.Path.{sym, ap, subst, ◌∙◌}
use Prim.Native.Nat.{ℕ, ◌-◌, ◌%◌, ◌<◌}
use native.Mathlib.Omega.{arith}
use native.Mathlib.Nat.{pos_of_ne-zero}
use borrow.Author.Rules.{rules}
use Rattle.fields.specs.Types.{array_of, map_with}
use Rattle.fields.specs.Tests.{typed}
use Rattle.fields.specs.Numbers.{build, type_of, tag_of, rows_from, marked}
use Rattle.fields.specs.Steps.{ItemsSay, EntriesSay}
use Rattle.fields.specs.Laws.Numbers.{rows-count, simple-kind, map-distinct, map-hinted, type-none, type-past, type-read, build-map}
use Rattle.fields.specs.Laws.Steps.{left-next, value_as, value-cut, nothing-says, head_read, array_of-wrong, array_of-says, map_with-wrong, map_with-says, items-none, items-next, items-wrong, entries_next, entries-wrong, entries-done, entries-lack, row-says, row-over}
use Rattle.fields.proofs.+entries_typed_entry_typed_items_typed_row_typed_typed_at.Goals as goal

pub entries_typed-returns-then-e-eq0 : goal.entries_typed-returns-then-e-eq0
entries_typed-returns-then-e-eq0 t c =
    let a = c.args in
    let l = c.loop in
    let rows = rows_from (type_of a.depth) a.n a.first in
    l.invariant 0 (entries-wrong a.file.now rows c.requires.1.1.1.0 (a.count - l.counter) l.p l.seen _ (omega (arith, c.loop-test.true)) (record { says = c.key_at-key.ensures.says }) (c.row_of-row.ensures (type_of a.depth)) c.entry_typed-e.ensures c.if-e-eq0.true)

pub entries_typed-loop-preserved : goal.entries_typed-loop-preserved
entries_typed-loop-preserved t c =
    let a = c.args in
    let l = c.loop in
    let rows = rows_from (type_of a.depth) a.n a.first in
    λ r h.
    let rest = subst (λ (z : ℕ). EntriesSay a.file.now rows c.mark-seen.result z c.entry_typed-e.result r) (left-next a.count l.counter) h in
    l.invariant r (entries_next a.file.now rows c.requires.1.1.1.0 (a.count - l.counter) l.p l.seen _ (omega (arith, c.loop-test.true)) (record { says = c.key_at-key.ensures.says }) (c.row_of-row.ensures (type_of a.depth)) c.entry_typed-e.ensures _ c.if-e-eq0.false (c.mark-seen.ensures ∙ ap (λ (z : ℕ). marked z l.seen c.row_of-row.result) (sym (rows-count (type_of a.depth) a.n a.first))) rest)

pub entries_typed-returns-then-all_seen : goal.entries_typed-returns-then-all_seen
entries_typed-returns-then-all_seen t c =
    let a = c.args in
    let l = c.loop in
    let rows = rows_from (type_of a.depth) a.n a.first in
    l.invariant l.p (entries-done a.file.now rows _ l.p l.seen (omega (arith, c.loop-test.false)) (c.all_seen.ensures (type_of a.depth)) c.if-all_seen.true)

pub entries_typed-returns-else-all_seen : goal.entries_typed-returns-else-all_seen
entries_typed-returns-else-all_seen t c =
    let a = c.args in
    let l = c.loop in
    let rows = rows_from (type_of a.depth) a.n a.first in
    l.invariant 0 (entries-lack a.file.now rows _ l.p l.seen (omega (arith, c.loop-test.false)) (c.all_seen.ensures (type_of a.depth)) c.if-all_seen.false)

pub entry_typed-returns-then-end-gt0 : goal.entry_typed-returns-then-end-gt0
entry_typed-returns-then-end-gt0 t c = c.quick_row-end.ensures c.if-end-gt0.true

pub items_typed-returns-then-e-eq0 : goal.items_typed-returns-then-e-eq0
items_typed-returns-then-e-eq0 t c =
    let a = c.args in
    let l = c.loop in
    l.invariant 0 (items-wrong a.file.now (typed (type_of a.depth a.code)) _ l.p (omega (arith, c.loop-test.true)) c.typed_at-e.ensures c.if-e-eq0.true)

pub items_typed-loop-preserved : goal.items_typed-loop-preserved
items_typed-loop-preserved t c =
    let a = c.args in
    let l = c.loop in
    λ r h.
    let rest = subst (λ (z : ℕ). ItemsSay a.file.now (typed (type_of a.depth a.code)) z c.typed_at-e.result r) (left-next a.count l.counter) h in
    l.invariant r (items-next a.file.now (typed (type_of a.depth a.code)) (a.count - l.counter) l.p (omega (arith, c.loop-test.true)) c.typed_at-e.ensures c.if-e-eq0.false rest)

pub items_typed-returns : goal.items_typed-returns
items_typed-returns t c =
    let a = c.args in
    let l = c.loop in
    l.invariant l.p (items-none a.file.now (typed (type_of a.depth a.code)) _ l.p (omega (arith, c.loop-test.false)))

pub row_typed-returns-then-row-n : goal.row_typed-returns-then-row-n
row_typed-returns-then-row-n t c =
    let a = c.args in
    row-says a.file.now (type_of a.depth) a.n a.first a.row c.if-row-n.true c.cell-code.ensures.is c.typed_at.ensures

pub row_typed-returns : goal.row_typed-returns
row_typed-returns t c =
    let a = c.args in
    row-over a.file.now (type_of a.depth) a.n a.first a.row c.if-row-n.false c.skip.ensures

pub typed_at-returns-then-depth-eq0 : goal.typed_at-returns-then-depth-eq0
typed_at-returns-then-depth-eq0 t c =
    let a = c.args in
    nothing-says a.file.now a.at (type_of a.depth a.code) (ap (λ (d : ℕ). type_of d a.code) c.if-depth-eq0.true ∙ type-none a.code)

pub typed_at-returns-then-code-ge-CODE_COUNT : goal.typed_at-returns-then-code-ge-CODE_COUNT
typed_at-returns-then-code-ge-CODE_COUNT t c =
    let a = c.args in
    nothing-says a.file.now a.at (type_of a.depth a.code) (type-past a.depth a.code c.if-code-ge-CODE_COUNT.true)

pub typed_at-simple_at-requires : goal.typed_at-simple_at-requires
typed_at-simple_at-requires t c =
    let a = c.args in
    let small : tag_of a.code < 3 = omega (arith, c.cell-tag.ensures.is) in
    (c.if-tag-lt3.true, omega (arith, c.cell-inside.ensures.is, simple-kind a.code c.if-code-ge-CODE_COUNT.false small))

pub typed_at-returns-then-tag-lt3 : goal.typed_at-returns-then-tag-lt3
typed_at-returns-then-tag-lt3 t c =
    let a = c.args in
    value_as (type_of a.depth a.code) _ (type-read a.depth a.code (pos_of_ne-zero c.if-depth-eq0.false) c.if-code-ge-CODE_COUNT.false c.cell-tag.ensures.is c.cell-many.ensures.is c.cell-inside.ensures.is) (c.simple_at.ensures (type_of (a.depth - 1)))

pub typed_at-returns-in_default : goal.typed_at-returns-in_default
typed_at-returns-in_default t c =
    let a = c.args in
    value-cut a.file.now a.at (typed (type_of a.depth a.code)) c.head_at.ensures.rule c.in_default.is

pub typed_at-returns-then-kind-ne-ARRAY : goal.typed_at-returns-then-kind-ne-ARRAY
typed_at-returns-then-kind-ne-ARRAY t c =
    let a = c.args in
    value_as (type_of a.depth a.code) (array_of (type_of (a.depth - 1) c.cell-inside.result)) (type-read a.depth a.code (pos_of_ne-zero c.if-depth-eq0.false) c.if-code-ge-CODE_COUNT.false c.cell-tag.ensures.is c.cell-many.ensures.is c.cell-inside.ensures.is ∙ ap (λ (t : ℕ). build (type_of (a.depth - 1)) t (c.cell-many.result % 64) c.cell-inside.result) c.if-tag-eq3.true) (array_of-wrong (head_read a.file.now a.at c.head_at.ensures.rule c.in-Some.is c.kind_at.ensures.rule c.head_kind-kind.ensures) (type_of (a.depth - 1) c.cell-inside.result) c.if-kind-ne-ARRAY.true)

pub typed_at-returns-then-tag-eq3 : goal.typed_at-returns-then-tag-eq3
typed_at-returns-then-tag-eq3 t c =
    let a = c.args in
    value_as (type_of a.depth a.code) (array_of (type_of (a.depth - 1) c.cell-inside.result)) (type-read a.depth a.code (pos_of_ne-zero c.if-depth-eq0.false) c.if-code-ge-CODE_COUNT.false c.cell-tag.ensures.is c.cell-many.ensures.is c.cell-inside.ensures.is ∙ ap (λ (t : ℕ). build (type_of (a.depth - 1)) t (c.cell-many.result % 64) c.cell-inside.result) c.if-tag-eq3.true) (array_of-says (head_read a.file.now a.at c.head_at.ensures.rule c.in-Some.is c.kind_at.ensures.rule c.head_kind-kind.ensures) (type_of (a.depth - 1) c.cell-inside.result) c.if-kind-ne-ARRAY.false c.items_typed.ensures)

pub typed_at-returns-then-kind-ne-MAP : goal.typed_at-returns-then-kind-ne-MAP
typed_at-returns-then-kind-ne-MAP t c =
    let a = c.args in
    let large : 3 < c.cell-tag.result = omega arith in
    value_as (type_of a.depth a.code) (map_with (rows_from (type_of (a.depth - 1)) (c.cell-many.result % 64) c.cell-inside.result)) (type-read a.depth a.code (pos_of_ne-zero c.if-depth-eq0.false) c.if-code-ge-CODE_COUNT.false c.cell-tag.ensures.is c.cell-many.ensures.is c.cell-inside.ensures.is ∙ build-map (type_of (a.depth - 1)) c.cell-tag.result (c.cell-many.result % 64) c.cell-inside.result large) (map_with-wrong (head_read a.file.now a.at c.head_at.ensures.rule c.in-Some.is c.kind_at.ensures.rule c.head_kind-kind.ensures) (rows_from (type_of (a.depth - 1)) (c.cell-many.result % 64) c.cell-inside.result) c.if-kind-ne-MAP.true)

pub typed_at-entries_typed-requires : goal.typed_at-entries_typed-requires
typed_at-entries_typed-requires t c =
    let a = c.args in
    let large : 3 < tag_of a.code = omega (arith, c.cell-tag.ensures.is) in
    (search rules, (c.requires, (c.cell-inside.ensures.byte, (omega arith, (rw (c.cell-many.ensures.is, c.cell-inside.ensures.is) (map-distinct (type_of (a.depth - 1)) a.code c.if-code-ge-CODE_COUNT.false large), rw (c.cell-many.ensures.is, c.cell-inside.ensures.is) (map-hinted a.code c.if-code-ge-CODE_COUNT.false large))))))

pub typed_at-returns : goal.typed_at-returns
typed_at-returns t c =
    let a = c.args in
    let large : 3 < c.cell-tag.result = omega arith in
    value_as (type_of a.depth a.code) (map_with (rows_from (type_of (a.depth - 1)) (c.cell-many.result % 64) c.cell-inside.result)) (type-read a.depth a.code (pos_of_ne-zero c.if-depth-eq0.false) c.if-code-ge-CODE_COUNT.false c.cell-tag.ensures.is c.cell-many.ensures.is c.cell-inside.ensures.is ∙ build-map (type_of (a.depth - 1)) c.cell-tag.result (c.cell-many.result % 64) c.cell-inside.result large) (map_with-says (head_read a.file.now a.at c.head_at.ensures.rule c.in-Some.is c.kind_at.ensures.rule c.head_kind-kind.ensures) (rows_from (type_of (a.depth - 1)) (c.cell-many.result % 64) c.cell-inside.result) c.if-kind-ne-MAP.false c.entries_typed.ensures)
