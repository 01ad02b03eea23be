-- The numbers before the place stand at the buffer's start (`plain-next`), where those before the first did.
use mathlib.Core.Path.{◌≡◌}
use Prim.Native.Nat.{◌-◌, ◌≤◌}
use lib.ListN.{length}
use Rattle.decoding.specs.Steps.{WrotePart}
use Rattle.decoding.proofs.write_part.Given as goal

abbrev pub invariant-loop-i : goal.invariant-loop-i
invariant-loop-i l = (l.i ≤ l.to) × (length l.buffer ≡ length l.initial.buffer) × WrotePart l.size l.payload l.from l.i l.initial.buffer l.buffer

abbrev pub decreases-loop-i : goal.decreases-loop-i
decreases-loop-i l = l.to - l.i
