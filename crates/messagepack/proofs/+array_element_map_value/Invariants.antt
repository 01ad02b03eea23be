-- A value is walked by its kind, an array and a map by loops whose invariants say that what is left from here on decides, and that the rows of
-- the maps that are open stay. The levels left fall with each array and map: three times the levels left, and more before a value is taken up.
use Rattle.std.proofs.Common.{◌≡◌, ◌+◌, ◌*◌}
use Rattle.messagepack.specs.Walk.{value_at, many_at}
use Rattle.messagepack.specs.Keys.{Kept}
use Rattle.messagepack.proofs.Laws.Tables.{Going}
use Rattle.messagepack.proofs.+array_element_map_value.Given as goal

abbrev pub decreases-array : goal.decreases-array
decreases-array l = 3 * l.depth + 2

abbrev pub decreases-element : goal.decreases-element
decreases-element l = 3 * l.depth + 1

abbrev pub decreases-map : goal.decreases-map
decreases-map l = 3 * l.depth + 2

abbrev pub decreases-value : goal.decreases-value
decreases-value l = 3 * l.depth

abbrev pub invariant-array-loop-left : goal.invariant-array-loop-left
invariant-array-loop-left l =
    Kept l.depth l.initial.starts l.starts × Kept l.depth l.initial.prints l.prints
    × (many_at (value_at l.file l.depth) l.n l.at ≡ many_at (value_at l.file l.depth) l.left l.p)

abbrev pub decreases-array-loop-left : goal.decreases-array-loop-left
decreases-array-loop-left l = l.left

abbrev pub invariant-map-loop-row : goal.invariant-map-loop-row
invariant-map-loop-row l = Going l.file l.n l.at l.depth l.initial.starts l.initial.prints l.starts l.prints l.row l.p
