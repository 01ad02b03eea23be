-- The sums of the runs before the place stand at the buffer's start (`written-run`); where the runs end, all do.
use mathlib.Core.Bool.{true}
use Prim.Native.Nat.{◌-◌, ◌≤◌}
use lib.ListN.{length}
use Rattle.steps.specs.declared.Range.{Range}
use Rattle.steps.specs.declared.Form.TheVariants.{Runs}
use Rattle.payloads.specs.Results.{HasRoom}
use Rattle.payloads.specs.Laws.Writing.{Written}
use Rattle.decoding.specs.Calls.{as_number}
use Rattle.decoding.proofs.write_sums.Given as goal

abbrev pub invariant-loop-at : goal.invariant-loop-at
invariant-loop-at l =
    (l.at ≤ length l.payload) × ((r : Range) (room : HasRoom (Runs r) l.payload (length l.initial.buffer)) → Written as_number (Runs r) true l.payload l.initial.buffer room l.at l.o l.buffer l.sum)

abbrev pub decreases-loop-at : goal.decreases-loop-at
decreases-loop-at l = length l.payload - l.at
