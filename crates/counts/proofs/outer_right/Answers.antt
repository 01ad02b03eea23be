-- The list is the document's bondOrderList.
use mathlib.Core.Path.{refl}
use Rattle.text.specs.Equal.{equal}
use Rattle.fields.specs.Table.{named}
use Rattle.fields.specs.Fields.{field, find_row}
use Rattle.file_columns.specs.Laws.Columns.{right-named}
use Rattle.counts.proofs.Laws.Steps.{says-named}
use Rattle.counts.proofs.outer_right.Goals as goal

pub returns : goal.returns
unfolding find_row equal named
returns c = λ es f. c.all_between.ensures (field "bondOrderList" es) (says-named f "bondOrderList" refl refl) (right-named es f.right "bondOrderList" refl)
