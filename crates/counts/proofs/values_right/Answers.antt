-- The two lists are the document's, one after the other.
use mathlib.Core.Path.{refl, sym, ◌∙◌}
use Rattle.text.specs.Equal.{equal}
use Rattle.fields.specs.Table.{named}
use Rattle.fields.specs.Fields.{field, find_row}
use Rattle.file_columns.specs.Laws.Columns.{right-named}
use Rattle.counts.proofs.Laws.Steps.{says-named, and_first, and-true}
use Rattle.counts.proofs.values_right.Goals as goal

pub returns-else-all_between : goal.returns-else-all_between
unfolding find_row equal named
returns-else-all_between c =
    λ es f.
    let structures = c.all_between.ensures (field "secStructList" es) (says-named f "secStructList" refl refl) (right-named es f.right "secStructList" refl) in
    c.if-all_between.false ∙ sym (and_first _ _ (sym structures ∙ c.if-all_between.false))

pub returns-then-all_between : goal.returns-then-all_between
unfolding find_row equal named
returns-then-all_between c =
    λ es f.
    let structures = c.all_between.ensures (field "secStructList" es) (says-named f "secStructList" refl refl) (right-named es f.right "secStructList" refl) in
    let sequences = c.all_between-then-all_between.ensures (field "sequenceIdList" es) (says-named f "sequenceIdList" refl refl) (right-named es f.right "sequenceIdList" refl) in
    sequences ∙ sym (and-true _ _ (sym structures ∙ c.if-all_between.true))
