-- The loop's invariant: the numbers of the values passed, with one for each value that is left, are `n`.
use Rattle.std.proofs.Common.{◌≡◌, ◌+◌, ◌-◌, ◌≤◌, length, drop}
use Rattle.steps.specs.Delta.{deltas_if, deltas_from}
use Rattle.steps.specs.Packing.{pack}
use Rattle.writers.proofs.packed.count_numbers.Given as goal

abbrev pub invariant-loop-i : goal.invariant-loop-i
invariant-loop-i l =
    (l.i ≤ length l.values) × (l.n ≤ l.fit) × (l.n + length (pack l.size (deltas_from l.delta l.before (drop l.i l.values))) ≡ length (pack l.size (deltas_if l.delta l.values)) + (length l.values - l.i))

abbrev pub decreases-loop-i : goal.decreases-loop-i
decreases-loop-i l = length l.values - l.i
