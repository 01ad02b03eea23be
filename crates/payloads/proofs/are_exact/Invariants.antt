-- The total tells of each result, so that those before the place are judged (`summed-next`), and at the end all are (`summed-end`).
use Rattle.std.proofs.Common.{◌≡◌, ℕ, ◌-◌, ◌≤◌, List, length, ℤ}
use mathlib.Core.Option.{some}
use Rattle.steps.specs.declared.Form.TheVariants.{Packed}
use Rattle.steps.specs.Payload.{read_in}
use Rattle.payloads.specs.Laws.Totals.{Summed}
use Rattle.payloads.proofs.are_exact.Given as goal

abbrev pub invariant-loop-i : goal.invariant-loop-i
invariant-loop-i state =
    (state.i ≤ length state.payload) × ((l : List ℤ) (e : read_in (Packed state.size) state.payload ≡ some l) → (count : ℕ) × Summed state.size state.delta state.payload l e state.i count state.exact state.total)

abbrev pub decreases-loop-i : goal.decreases-loop-i
decreases-loop-i l = length l.payload - l.i
