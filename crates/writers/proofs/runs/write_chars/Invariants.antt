-- The loop's invariant: the bytes of `n` cells `v` and of the cells that are left, put over the buffer from `at` on, give the finished one.
use Rattle.std.proofs.Common.{◌≡◌, ◌-◌, ◌≤◌, map, length, drop, pos}
use Rattle.steps.specs.declared.Size.TheVariants.{Four}
use Rattle.steps.specs.Numbers.{bytes_for}
use Rattle.steps.specs.RunLength.{runs_from, runs_of}
use Rattle.writers.specs.Placed.{over}
use Rattle.writers.specs.Laws.Placed.{ToCome}
use Rattle.writers.proofs.runs.write_chars.Given as goal

abbrev pub invariant-loop-i : goal.invariant-loop-i
invariant-loop-i l =
    (l.i ≤ length l.values) × (l.n ≤ l.i) × (length l.buffer ≡ length l.initial.buffer)
    × ToCome (over l.initial.buffer l.start (bytes_for Four (runs_of (map pos l.values)))) l.buffer l.at (bytes_for Four (runs_from (pos l.v) l.n (map pos (drop l.i l.values))))

abbrev pub decreases-loop-i : goal.decreases-loop-i
decreases-loop-i l = length l.values - l.i
