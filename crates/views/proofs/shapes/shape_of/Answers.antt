-- The document under the key decides.
use Rattle.views.specs.Laws.Shapes.{shape-none, shape-some}
use Rattle.views.proofs.shapes.shape_of.Goals as goal

pub returns-then-at-eq0 : goal.returns-then-at-eq0
returns-then-at-eq0 c = shape-none _ c.value_under-at.ensures c.if-at-eq0.true

pub returns : goal.returns
returns c =
    shape-some _ c.value_under-at.ensures c.if-at-eq0.false (c.shape_at.ensures)
