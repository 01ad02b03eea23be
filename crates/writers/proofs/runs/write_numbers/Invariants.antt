-- The loop's invariant: the bytes of `n` cells `v` and of the cells that are left, put over the buffer from `at` on, give the finished one.
use Rattle.std.proofs.Common.{◌≡◌, ◌-◌, ◌<◌, ◌≤◌, length, drop, w32, to_z}
use Rattle.steps.specs.declared.Size.TheVariants.{Four}
use Rattle.steps.specs.Numbers.{bytes_for}
use Rattle.steps.specs.Delta.{deltas_if, deltas_from}
use Rattle.steps.specs.RunLength.{runs_from, runs_of}
use Rattle.writers.specs.Placed.{over}
use Rattle.writers.specs.Laws.Placed.{ToCome}
use Rattle.writers.proofs.runs.write_numbers.Given as goal

abbrev pub invariant-loop-i : goal.invariant-loop-i
invariant-loop-i l =
    (l.i ≤ length l.values) × (l.n ≤ l.i) × (l.v < 4294967296) × (length l.buffer ≡ length l.initial.buffer)
    × ToCome (over l.initial.buffer l.start (bytes_for Four (runs_of (deltas_if l.delta l.values)))) l.buffer l.at (bytes_for Four (runs_from (to_z w32 l.v) l.n (deltas_from l.delta l.before (drop l.i l.values))))

abbrev pub decreases-loop-i : goal.decreases-loop-i
decreases-loop-i l = length l.values - l.i
