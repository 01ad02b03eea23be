-- The entries of the map are those that are searched.
use Rattle.values.specs.Parts.{entries_of}
use Rattle.values.proofs.keys.find.Goals as goal

pub returns : goal.returns
returns c =
    λ x e a.
    let i = c.entries_at-part.ensures.says x e a in
    c.find_from.ensures (entries_of x) i.end i.all i.counts
