-- The blocks before the place stand at the buffer's start; at the end, all numbers do (`plain-wrote`).
use mathlib.Core.Path.{◌≡◌}
use Prim.Native.Nat.{◌-◌, ◌≤◌}
use lib.ListN.{length}
use Rattle.decoding.specs.Steps.{PlainUpTo}
use Rattle.decoding.proofs.write_plain.Given as goal

abbrev pub invariant-loop-i : goal.invariant-loop-i
invariant-loop-i l = (l.i ≤ l.n) × (length l.buffer ≡ length l.initial.buffer) × PlainUpTo l.size l.payload l.initial.buffer l.i l.buffer

abbrev pub decreases-loop-i : goal.decreases-loop-i
decreases-loop-i l = l.n - l.i
