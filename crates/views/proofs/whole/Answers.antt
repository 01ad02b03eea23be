-- The value's end is where the skip ends, which is not before it.
use native.Mathlib.Omega.{arith}
use Rattle.values.specs.Laws.Standing.{standing-counts}
use Rattle.views.proofs.whole.Goals as goal

pub returns-then-end-at : goal.returns-then-end-at
returns-then-end-at c = λ e st. absurd (omega (arith, c.skip-end.ensures e st, standing-counts _ 1 _ e st))
