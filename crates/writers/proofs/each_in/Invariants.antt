-- The loop's invariant: what was tested and what is left decide.
use Rattle.std.proofs.Common.{◌≡◌, ◌-◌, ◌≤◌, ◌&&◌, length, drop}
use Rattle.steps.specs.Payload.{all_in}
use Rattle.writers.proofs.each_in.Given as goal

abbrev pub invariant-loop-i : goal.invariant-loop-i
invariant-loop-i l = (l.i ≤ length l.values) × (l.ok && all_in l.range (drop l.i l.values) ≡ all_in l.range l.values)

abbrev pub decreases-loop-i : goal.decreases-loop-i
decreases-loop-i l = length l.values - l.i
