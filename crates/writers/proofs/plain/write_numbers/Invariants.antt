-- The loop's invariant: the bytes of the values that are left, put over the buffer from `at` on, give the finished one.
use Rattle.std.proofs.Common.{◌≡◌, ◌-◌, ◌≤◌, true, length, drop}
use Rattle.steps.specs.declared.Form.TheVariants.{Plain}
use Rattle.steps.specs.Numbers.{bytes_for}
use Rattle.steps.specs.Payload.{range_of, all_in}
use Rattle.writers.specs.Placed.{over}
use Rattle.writers.specs.Laws.Placed.{ToCome}
use Rattle.writers.proofs.plain.write_numbers.Given as goal

abbrev pub invariant-loop-i : goal.invariant-loop-i
invariant-loop-i l =
    (l.i ≤ length l.values) × (all_in (range_of (Plain l.size)) (drop l.i l.values) ≡ true) × (length l.buffer ≡ length l.initial.buffer)
    × ToCome (over l.initial.buffer l.start (bytes_for l.size l.values)) l.buffer l.at (bytes_for l.size (drop l.i l.values))

abbrev pub decreases-loop-i : goal.decreases-loop-i
decreases-loop-i l = length l.values - l.i
