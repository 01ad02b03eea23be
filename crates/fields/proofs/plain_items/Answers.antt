-- Integers in their lead bytes are typed at once (`low-items`); else each item is looked at.
use mathlib.Core.Path.{ap}
use Rattle.fields.specs.Types.{plain}
use Rattle.fields.specs.Laws.Steps.{items_as, low-items}
use Rattle.fields.proofs.plain_items.Goals as goal

pub returns-then-all_low : goal.returns-then-all_low
returns-then-all_low c =
    let a = c.args in
    items_as (plain a.wanted) (plain 1) (ap plain c.if-wanted-eq-INTEGER.true) (low-items a.file.now a.count a.at (c.all_low.ensures.0 c.if-all_low.true))
