-- The answer of the tally with the results from here on is the answer of all (`run_on`, `run-off`).
use Rattle.std.proofs.Common.{◌≡◌, ◌-◌, ◌≤◌, length, drop}
use Rattle.steps.specs.Payload.{read_in}
use Rattle.file_columns.specs.Passing.{held_sums, Sound}
use Rattle.file_columns.specs.Laws.Passing.{rest_sums}
use Rattle.file_columns.proofs.whole.sum_items.Given as goal

abbrev pub invariant-loop-value : goal.invariant-loop-value
invariant-loop-value l =
    (l.at ≤ length l.payload) × Sound l.tally
    × (held_sums l.types l.atoms l.bonds l.n l.delta (read_in l.form l.payload) ≡ rest_sums l.types l.atoms l.bonds l.delta l.tally (read_in l.form (drop l.at l.payload)))

abbrev pub decreases-loop-value : goal.decreases-loop-value
decreases-loop-value l = length l.payload - l.at
