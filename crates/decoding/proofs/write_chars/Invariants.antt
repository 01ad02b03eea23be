-- The runs before the place stand at the buffer's start, and beyond the results nothing has changed (`begun-run`).
use Prim.Native.Nat.{◌-◌, ◌≤◌}
use lib.ListN.{length}
use Rattle.steps.specs.declared.Range.TheVariants.{Ascii}
use Rattle.steps.specs.declared.Form.TheVariants.{Runs}
use Rattle.payloads.specs.Results.{HasResults}
use Rattle.payloads.specs.Laws.Runs.{Begun}
use Rattle.decoding.specs.Calls.{as_byte}
use Rattle.decoding.proofs.write_chars.Given as goal

abbrev pub invariant-loop-at : goal.invariant-loop-at
invariant-loop-at l =
    (l.at ≤ length l.payload) × ((held : HasResults (Runs Ascii) l.payload l.n) (room : l.n ≤ length l.initial.buffer) → Begun as_byte (Runs Ascii) l.payload l.initial.buffer l.n held room l.at l.o l.buffer)

abbrev pub decreases-loop-at : goal.decreases-loop-at
decreases-loop-at l = length l.payload - l.at
