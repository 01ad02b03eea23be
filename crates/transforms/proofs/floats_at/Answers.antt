-- The values of the array are those that are read.
use Rattle.values.specs.Parts.{items_of}
use Rattle.transforms.proofs.floats_at.Goals as goal

pub returns : goal.returns
returns c =
    λ x e a n.
    let i = c.items_at-part.ensures.says x e a in
    c.floats_from.ensures (items_of x) i.end i.all n
