-- The kind of the value and the values of the array are those of the document there.
use mathlib.Core.Path.{ap₂, ◌∙◌}
use Rattle.values.specs.Parts.{items_of}
use Rattle.views.specs.Shapes.{kind_shape}
use Rattle.views.specs.Laws.Shapes.{kind-shape}
use Rattle.views.proofs.shapes.shape_at.Goals as goal

pub returns : goal.returns
returns c =
    λ x e a.
    let i = c.items_at-part.ensures.says x e a in
    c.by_kind.ensures ∙ ap₂ kind_shape (c.kind_at.ensures.rule) (c.all_plain-flat.ensures (items_of x) i.end i.all i.counts) ∙ kind-shape x a
