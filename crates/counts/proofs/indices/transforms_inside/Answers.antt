-- The transforms under their key are judged.
use Rattle.values.specs.Parts.{under}
use Rattle.counts.proofs.indices.transforms_inside.Goals as goal

pub returns : goal.returns
returns c = λ x e a. c.all_inside.ensures (under "transformList" x) (c.find-transforms.ensures x e a)
