-- The loop's invariant: the bytes of the cells that are left, put over the buffer from `at` on, give the finished one.
use Rattle.std.proofs.Common.{◌≡◌, map, length, drop, pos}
use Rattle.steps.specs.declared.Size.TheVariants.{One}
use Rattle.steps.specs.Numbers.{bytes_for}
use Rattle.writers.specs.Placed.{over}
use Rattle.writers.specs.Laws.Placed.{ToCome}
use Rattle.writers.proofs.plain.write_names.Given as goal

abbrev pub invariant-loop-byte : goal.invariant-loop-byte
invariant-loop-byte l =
    (length l.buffer ≡ length l.initial.buffer) × ToCome (over l.initial.buffer l.start (bytes_for One (map pos l.names))) l.buffer l.at (bytes_for One (map pos (drop l.byte-index l.names)))
