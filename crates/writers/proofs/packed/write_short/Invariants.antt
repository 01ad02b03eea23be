-- The loop's invariant: the bytes of the values that are left, put over the buffer from `at` on, give the same as those of the start.
use Rattle.std.proofs.Common.{◌≡◌, ◌-◌, ◌≤◌, length, drop}
use Rattle.steps.specs.Numbers.{bytes_for}
use Rattle.steps.specs.Packing.{pack}
use Rattle.steps.specs.Delta.{deltas_from}
use Rattle.writers.specs.Placed.{over}
use Rattle.writers.specs.Laws.Placed.{ToCome}
use Rattle.writers.proofs.packed.write_short.Given as goal

abbrev pub invariant-loop-i : goal.invariant-loop-i
invariant-loop-i l =
    (l.initial.i ≤ l.i) × (length l.buffer ≡ length l.initial.buffer)
    × ToCome (over l.initial.buffer l.initial.at (bytes_for l.size (pack l.size (deltas_from l.delta l.initial.before (drop l.initial.i l.values))))) l.buffer l.at (bytes_for l.size (pack l.size (deltas_from l.delta l.before (drop l.i l.values))))

abbrev pub decreases-loop-i : goal.decreases-loop-i
decreases-loop-i l = length l.values - l.i
