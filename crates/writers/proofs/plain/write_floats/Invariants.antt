-- The loop's invariant: the bytes of the cells that are left, put over the buffer from `at` on, give the finished one.
use Rattle.std.proofs.Common.{◌≡◌, map, length, drop, w32, to_z}
use Rattle.steps.specs.declared.Size.TheVariants.{Four}
use Rattle.steps.specs.Numbers.{bytes_for}
use Rattle.writers.specs.Placed.{over}
use Rattle.writers.specs.Laws.Placed.{ToCome}
use Rattle.writers.proofs.plain.write_floats.Given as goal

abbrev pub invariant-loop-x : goal.invariant-loop-x
invariant-loop-x l =
    (length l.buffer ≡ length l.initial.buffer) × ToCome (over l.initial.buffer l.start (bytes_for Four (map (to_z w32) l.bits))) l.buffer l.at (bytes_for Four (map (to_z w32) (drop l.x-index l.bits)))
