-- The quotients of the numbers before the place stand at the buffer's start (`plain-next`); at the end, all do (`plain-wrote`).
use mathlib.Core.Path.{◌≡◌}
use Prim.Native.Nat.{◌-◌, ◌≤◌}
use lib.ListN.{length}
use Rattle.steps.specs.declared.Form.TheVariants.{Plain}
use Rattle.payloads.specs.Results.{HasResults}
use Rattle.payloads.specs.Laws.Plain.{PlainTo}
use Rattle.floats.specs.Steps.{bits_by}
use Rattle.floats.proofs.write_plain.Given as goal

abbrev pub invariant-loop-i : goal.invariant-loop-i
invariant-loop-i l =
    (l.i ≤ l.n) × (length l.buffer ≡ length l.initial.buffer) × ((held : HasResults (Plain l.size) l.payload l.n) → PlainTo (bits_by l.divisor) l.size l.payload l.n held l.initial.buffer l.i l.buffer)

abbrev pub decreases-loop-i : goal.decreases-loop-i
decreases-loop-i l = l.n - l.i
