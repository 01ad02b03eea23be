-- `starts_with` compares the first two bytes. Assumes nothing.
use mathlib.Core.Path.{◌∙◌}
use Rattle.text.specs.Laws.Equal.{pointwise-swapped}
use Rattle.sentences.proofs.is_gzip.Goals as goal

pub returns : goal.returns
returns c = c.starts_with.ensures.value ∙ pointwise-swapped _ _
