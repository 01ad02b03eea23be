-- The loop's invariant: the limits that are left and the rest, put over the buffer from `at` on, give the finished one.
use Rattle.std.proofs.Common.{◌≡◌, ◌+◌, ◌-◌, [], ◌∷◌, ◌++◌, length, replicate}
use Rattle.writers.specs.Placed.{over}
use Rattle.writers.specs.Laws.Placed.{ToCome}
use Rattle.writers.specs.Bits.{bits_for}
use Rattle.writers.proofs.packed.write_parts.Given as goal

abbrev pub invariant-loop : goal.invariant-loop
invariant-loop l =
    (length l.buffer ≡ length l.initial.buffer) × (l.at + length (bits_for l.size (replicate (l.count - l.counter) l.limit ++ (l.rest ∷ []))) ≡ l.start + length (bits_for l.size (replicate l.count l.limit ++ (l.rest ∷ []))))
    × ToCome (over l.initial.buffer l.start (bits_for l.size (replicate l.count l.limit ++ (l.rest ∷ [])))) l.buffer l.at (bits_for l.size (replicate (l.count - l.counter) l.limit ++ (l.rest ∷ [])))
