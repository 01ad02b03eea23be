-- The answer from here is the answer of all (`rest-on`, `rest-off`, `rest-many`).
use Rattle.std.proofs.Common.{◌≡◌, ◌-◌, ◌≤◌, length, drop}
use Rattle.numbers.specs.Ranges.{between}
use Rattle.steps.specs.Payload.{read_in}
use Rattle.file_columns.specs.Passing.{held_pass}
use Rattle.file_columns.specs.Laws.Passing.{rest_pass}
use Rattle.file_columns.proofs.whole.items_between.Given as goal

abbrev pub invariant-loop-value : goal.invariant-loop-value
invariant-loop-value l =
    (l.at ≤ length l.payload)
    × (held_pass (between l.low l.high) l.n l.delta (read_in l.form l.payload) ≡ rest_pass (between l.low l.high) l.left l.delta l.last (read_in l.form (drop l.at l.payload)))

abbrev pub decreases-loop-value : goal.decreases-loop-value
decreases-loop-value l = length l.payload - l.at
