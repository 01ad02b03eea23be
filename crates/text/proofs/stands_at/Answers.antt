-- What is left from the place on starts with the word; past the end nothing is left.
use mathlib.Core.Path.{◌∙◌}
use Rattle.text.specs.Laws.Equal.{starts-begins}
use Rattle.text.proofs.stands_at.Goals as goal

pub returns : goal.returns
returns c = let a = c.args in c.starts_with.ensures.value ∙ starts-begins a.word.now a.bytes.now a.at c.min.result c.min.ensures
