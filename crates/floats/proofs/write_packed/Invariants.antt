-- The quotients of the results before the place stand at the buffer's start, and the total is that of the one that has begun
-- (`total-written-done`); each result is exact since all are.
use Prim.Native.Nat.{◌-◌, ◌≤◌}
use lib.ListN.{length}
use Rattle.steps.specs.declared.Form.TheVariants.{Packed}
use Rattle.payloads.specs.Results.{HasRoom}
use Rattle.payloads.specs.Laws.Totals.{WrittenTotal}
use Rattle.floats.specs.Steps.{bits_by}
use Rattle.floats.proofs.write_packed.Given as goal

abbrev pub invariant-loop-i : goal.invariant-loop-i
invariant-loop-i l =
    (l.i ≤ length l.payload) × ((room : HasRoom (Packed l.size) l.payload (length l.initial.buffer)) → WrittenTotal (bits_by l.divisor) l.size l.delta l.payload l.initial.buffer room l.i l.total l.o l.buffer)

abbrev pub decreases-loop-i : goal.decreases-loop-i
decreases-loop-i l = length l.payload - l.i
