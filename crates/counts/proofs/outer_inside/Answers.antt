-- The last index is that of the document's atoms, and the list is its bondAtomList.
use mathlib.Core.Path.{refl, sym, ap, ◌∙◌}
use native.Mathlib.Omega.{arith}
use lib.IntN.{ℤ, pos}
use mir.Syntax.{w32}
use mir.Facts.{to_z-of_z}
use Rattle.numbers.specs.Ranges.{all_between, last_index}
use Rattle.values.specs.Integers.{list_in}
use Rattle.values.specs.Laws.Integers.{few-below}
use Rattle.text.specs.Equal.{equal}
use Rattle.fields.specs.Table.{named}
use Rattle.fields.specs.Fields.{field, find_row}
use Rattle.columns.specs.declared.Kind.TheVariants.{Int32}
use Rattle.columns.specs.declared.Wanted.TheVariants.{Only}
use Rattle.file_columns.specs.Columns.{cells_in}
use Rattle.file_columns.specs.Laws.Columns.{right-named}
use Rattle.counts.proofs.Laws.Steps.{says-named}
use Rattle.counts.proofs.outer_inside.Goals as goal

pub returns : goal.returns
unfolding find_row equal named
returns c =
    λ es f k.
    let last = to_z-of_z {w = w32} (record { sfits = c.last_index-last.type_inv }) ∙ c.last_index-last.ensures ∙ ap last_index k.atoms in
    c.all_between.ensures (field "bondAtomList" es) (says-named f "bondAtomList" refl refl) (right-named es f.right "bondAtomList" refl)
    ∙ ap (λ (h : ℤ). all_between (pos 0) h (list_in (cells_in (Only Int32) (field "bondAtomList" es)))) last
    ∙ sym (few-below _ _ (omega (arith, k.few-atoms, k.atoms)))
