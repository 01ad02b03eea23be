-- The loop's invariant: what is to be written at the spot, put over the buffer from its place on, gives the finished one.
use Rattle.std.proofs.Common.{◌≡◌, ◌-◌, length}
use Rattle.steps.specs.Numbers.{bytes_for}
use Rattle.steps.specs.Delta.{deltas_if}
use Rattle.steps.specs.Packing.{pack}
use Rattle.writers.specs.Placed.{over}
use Rattle.writers.specs.Laws.Placed.{ToCome}
use Rattle.writers.specs.Bits.{to_write}
use Rattle.writers.proofs.packed.write_numbers.Given as goal

abbrev pub invariant-loop-size : goal.invariant-loop-size
invariant-loop-size l =
    (length l.buffer ≡ length l.initial.buffer) × ToCome (over l.initial.buffer l.start (bytes_for l.size (pack l.size (deltas_if l.delta l.values)))) l.buffer l.spot.at (to_write l.size l.delta l.values l.spot)

abbrev pub decreases-loop-size : goal.decreases-loop-size
decreases-loop-size l = length l.values - l.spot.next
