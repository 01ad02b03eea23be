-- The totals of the numbers before the place are stored (`stored_next`), each where there is room for it.
use Prim.Native.Nat.{◌-◌, ◌≤◌}
use Rattle.payloads.specs.Limits.{packed_size}
use Rattle.payloads.specs.Laws.Blocks.{StoredTo}
use Rattle.decoding.proofs.write_block.Given as goal

abbrev pub invariant-loop-i : goal.invariant-loop-i
invariant-loop-i l =
    (l.i ≤ l.count) × StoredTo (packed_size l.two) l.delta l.block l.begun l.from l.initial.buffer l.i l.o l.total l.buffer

abbrev pub decreases-loop-i : goal.decreases-loop-i
decreases-loop-i l = l.count - l.i
