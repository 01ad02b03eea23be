-- `==` is the test of equal bytes.
use Rattle.text.specs.Laws.Equal.{pointwise-equal}
use mathlib.Core.Path.{◌∙◌}
use Rattle.text.proofs.same_bytes.Goals as goal

pub returns : goal.returns
returns c = c.eq.ensures ∙ pointwise-equal c.args.x.now c.args.y.now
