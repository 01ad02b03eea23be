-- The results before the place are not yet the one at the index (`sought-more`, `sought-done`), and the next is (`sought-here`).
use mathlib.Core.Path.{◌≡◌}
use mathlib.Core.Option.{some}
use mathlib.Core.List.{List}
use Prim.Native.Nat.{◌-◌, ◌≤◌}
use lib.ListN.{length}
use lib.IntN.{ℤ}
use Rattle.steps.specs.declared.Form.TheVariants.{Packed}
use Rattle.steps.specs.Payload.{read_in}
use Rattle.cells.specs.Laws.Found.{Sought}
use Rattle.cells.proofs.packed_at.Given as goal

abbrev pub invariant-loop-at : goal.invariant-loop-at
invariant-loop-at state =
    (state.at ≤ length state.payload) × ((l : List ℤ) (e : read_in (Packed state.size) state.payload ≡ some l) → Sought state.size state.delta state.index state.payload l e state.at state.left state.total)

abbrev pub decreases-loop-at : goal.decreases-loop-at
decreases-loop-at l = length l.payload - l.at
