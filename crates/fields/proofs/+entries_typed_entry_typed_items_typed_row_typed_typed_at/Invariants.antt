-- A value is judged by its type's numbers, the values of an array and the entries of a map by loops whose invariants say that what is left from
-- here on decides. The levels left fall with each array and map: four times the levels left, and more before a value is taken up.
use Rattle.std.proofs.Common.{ℕ, ◌+◌, ◌-◌, ◌*◌}
use Rattle.fields.specs.Tests.{typed}
use Rattle.fields.specs.Numbers.{type_of, rows_from}
use Rattle.fields.specs.Steps.{ItemsSay, EntriesSay}
use Rattle.fields.proofs.+entries_typed_entry_typed_items_typed_row_typed_typed_at.Given as goal

abbrev pub decreases-entries_typed : goal.decreases-entries_typed
decreases-entries_typed l = 4 * l.depth + 3

abbrev pub decreases-entry_typed : goal.decreases-entry_typed
decreases-entry_typed l = 4 * l.depth + 2

abbrev pub decreases-items_typed : goal.decreases-items_typed
decreases-items_typed l = 4 * l.depth + 1

abbrev pub decreases-row_typed : goal.decreases-row_typed
decreases-row_typed l = 4 * l.depth + 1

abbrev pub decreases-typed_at : goal.decreases-typed_at
decreases-typed_at l = 4 * l.depth

abbrev pub invariant-entries_typed-loop : goal.invariant-entries_typed-loop
invariant-entries_typed-loop l =
    (r : ℕ) → EntriesSay l.file (rows_from (type_of l.depth) l.n l.first) l.seen (l.count - l.counter) l.p r
    → EntriesSay l.file (rows_from (type_of l.depth) l.n l.first) 0 l.count l.at r

abbrev pub invariant-items_typed-loop : goal.invariant-items_typed-loop
invariant-items_typed-loop l =
    (r : ℕ) → ItemsSay l.file (typed (type_of l.depth l.code)) (l.count - l.counter) l.p r → ItemsSay l.file (typed (type_of l.depth l.code)) l.count l.at r
