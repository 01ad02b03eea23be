-- The values of the array are those that are added.
use Rattle.values.specs.Parts.{items_of}
use Rattle.values.proofs.lists.sum_at.Goals as goal

pub returns : goal.returns
returns c =
    λ l x e a.
    let i = c.items_at-part.ensures.says x e a in
    c.sum_from.ensures l (items_of x) i.end i.all i.counts
