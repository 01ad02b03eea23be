-- The results before the place stand at the buffer's start, and the total is that of the one that has begun: block by block (`block-next`),
-- and then the rest (`rest-wrote`).
use Prim.Native.Nat.{◌-◌, ◌≤◌}
use lib.ListN.{length}
use Rattle.steps.specs.declared.Form.TheVariants.{Packed}
use Rattle.payloads.specs.Limits.{packed_size}
use Rattle.payloads.specs.Results.{HasRoom}
use Rattle.payloads.specs.Laws.Totals.{WrittenTotal}
use Rattle.decoding.specs.Calls.{as_number}
use Rattle.decoding.proofs.write_packed.Given as goal

abbrev pub invariant-loop-i : goal.invariant-loop-i
invariant-loop-i l =
    (l.i ≤ length l.payload) × ((room : HasRoom (Packed (packed_size l.two)) l.payload (length l.initial.buffer)) → WrittenTotal as_number (packed_size l.two) l.delta l.payload l.initial.buffer room l.i l.total l.o l.buffer)

abbrev pub decreases-loop-i : goal.decreases-loop-i
decreases-loop-i l = length l.payload - l.i
