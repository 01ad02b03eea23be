-- The values of the array are those that are judged, all at once where they are integers in their lead bytes.
use mathlib.Core.Path.{ap₂, ◌∙◌}
use lib.IntN.{ℤ}
use mir.Syntax.{w32}
use mir.Val.{to_z, of_z}
use mir.Facts.{to_z-of_z}
use Rattle.numbers.specs.Ranges.{between, all_between}
use Rattle.values.specs.Parts.{items_of}
use Rattle.values.specs.Integers.{integers_of}
use Rattle.values.specs.Laws.Integers.{low-pass}
use Rattle.values.proofs.lists.all_between.Goals as goal

pub returns-then-low_between : goal.returns-then-low_between
returns-then-low_between c =
    λ x e a.
    let i = c.items_at-part.ensures.says x e a in
    let b = c in
    low-pass (between (to_z w32 (of_z w32 b.args.low)) (to_z w32 (of_z w32 b.args.high))) i.all i.counts (c.all_low.ensures.0 c.if-all_low.true) (c.low_between.ensures c.if-low_between.true)
    ∙ ap₂ (λ (l h : ℤ). all_between l h (integers_of (items_of x))) (to_z-of_z {w = w32} b.ranges.low) (to_z-of_z {w = w32} b.ranges.high)

pub returns : goal.returns
returns c =
    λ x e a.
    let i = c.items_at-part.ensures.says x e a in
    let b = c in
    c.between_from.ensures (items_of x) i.end i.all i.counts ∙ ap₂ (λ (l h : ℤ). all_between l h (integers_of (items_of x))) (to_z-of_z {w = w32} b.ranges.low) (to_z-of_z {w = w32} b.ranges.high)
