-- A field's value is judged by its row, which has the field's type.
use Rattle.fields.specs.Laws.Notes.{is-typed, is-untyped}
use Rattle.fields.proofs.is_typed.Goals as goal

pub returns-then-field-ge-FIELD_COUNT : goal.returns-then-field-ge-FIELD_COUNT
returns-then-field-ge-FIELD_COUNT c = λ x e a. is-untyped c.args.field c.if-field-ge-FIELD_COUNT.true x

pub returns : goal.returns
returns c = is-typed c.judge-judged.ensures c.if-field-ge-FIELD_COUNT.false
