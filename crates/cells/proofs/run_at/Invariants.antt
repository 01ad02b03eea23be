-- The runs before the place do not reach the index (`reaching-more`), and the next does (`reaching-here`).
use mathlib.Core.Path.{◌≡◌}
use mathlib.Core.Option.{some}
use mathlib.Core.List.{List}
use Prim.Native.Nat.{◌-◌, ◌≤◌}
use lib.ListN.{length}
use lib.IntN.{ℤ}
use Rattle.steps.specs.declared.Range.{Range}
use Rattle.steps.specs.declared.Form.TheVariants.{Runs}
use Rattle.steps.specs.Payload.{read_in}
use Rattle.cells.specs.Laws.Found.{Reaching}
use Rattle.cells.proofs.run_at.Given as goal

abbrev pub invariant-loop-at : goal.invariant-loop-at
invariant-loop-at state =
    (state.at ≤ length state.payload) × ((r : Range) (l : List ℤ) (e : read_in (Runs r) state.payload ≡ some l) → Reaching r state.delta state.index state.payload l e state.at state.left state.sum)

abbrev pub decreases-loop-at : goal.decreases-loop-at
decreases-loop-at l = length l.payload - l.at
