-- A type of the first four is that of a value which holds no others.
use Prim.Native.Nat.{◌+◌}
use lib.Dec.{lit<}
use Rattle.fields.specs.Types.{plain}
use Rattle.fields.specs.Table.{field_count}
use Rattle.fields.specs.Numbers.{type_of, type_depth, first_field}
use Rattle.fields.specs.Laws.Numbers.{plain_type}
use Rattle.fields.specs.Laws.Steps.{value_as, row-says}
use Rattle.fields.proofs.field_typed.Goals as goal

pub returns-then-code-lt-PLAIN_TYPES : goal.returns-then-code-lt-PLAIN_TYPES
returns-then-code-lt-PLAIN_TYPES c =
    let a = c.args in
    let code = c.cell-code.result in
    row-says a.file.now (type_of type_depth) field_count first_field a.row c.if-row-lt-FIELD_COUNT.true c.cell-code.ensures.is (value_as (type_of type_depth code) (plain (code + 1)) (plain_type type_depth code (lit< tt) c.if-code-lt-PLAIN_TYPES.true) c.plain_at.ensures)
