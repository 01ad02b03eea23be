-- The loop's invariant: `n` cells up to the one at `i + 1` begin a run after the first, and the runs from that cell on are still to come.
use Rattle.std.proofs.Common.{◌≡◌, ◌+◌, ◌-◌, ◌*◌, ◌≤◌, length}
use Rattle.steps.specs.Delta.{deltas_if}
use Rattle.steps.specs.RunLength.{runs_of}
use Rattle.writers.specs.Bits.{cells_after}
use Rattle.writers.proofs.runs.count_numbers.Given as goal

abbrev pub invariant-loop-i : goal.invariant-loop-i
invariant-loop-i l = (l.i + 2 ≤ length l.values) × (l.n ≤ l.i + 1) × (length (runs_of (deltas_if l.delta l.values)) ≡ l.n * 2 + length (runs_of (cells_after l.delta l.values l.i)))

abbrev pub decreases-loop-i : goal.decreases-loop-i
decreases-loop-i l = length l.values - l.i
