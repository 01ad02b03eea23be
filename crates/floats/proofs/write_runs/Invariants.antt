-- The runs before the place stand at the buffer's start, and beyond the results nothing has changed (`begun-run`); the value of a run
-- is exact since all results are (`next-exact`).
use Prim.Native.Nat.{◌-◌, ◌≤◌}
use lib.ListN.{length}
use Rattle.steps.specs.declared.Range.{Range}
use Rattle.steps.specs.declared.Form.TheVariants.{Runs}
use Rattle.payloads.specs.Results.{HasResults}
use Rattle.payloads.specs.Laws.Runs.{Begun}
use Rattle.floats.specs.Steps.{bits_by}
use Rattle.floats.proofs.write_runs.Given as goal

abbrev pub invariant-loop-at : goal.invariant-loop-at
invariant-loop-at l =
    (l.at ≤ length l.payload) × ((r : Range) (held : HasResults (Runs r) l.payload l.n) (room : l.n ≤ length l.initial.buffer) → Begun (bits_by l.divisor) (Runs r) l.payload l.initial.buffer l.n held room l.at l.o l.buffer)

abbrev pub decreases-loop-at : goal.decreases-loop-at
decreases-loop-at l = length l.payload - l.at
