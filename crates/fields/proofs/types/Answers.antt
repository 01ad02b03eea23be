-- The table is made of the rows of Table.antt, which is computed once over all of it.
use mathlib.Core.Path.{refl}
use Rattle.fields.specs.Numbers.{row_cells, hint_place, row_hint, hint_cells, type_table}
use Rattle.fields.specs.Table.{group_rows, transform_rows, assembly_rows, entity_rows, named}
use Rattle.fields.proofs.types.Goals as goal

pub returns : goal.returns
unfolding row_cells hint_place row_hint hint_cells type_table named group_rows transform_rows assembly_rows entity_rows
returns c = refl
