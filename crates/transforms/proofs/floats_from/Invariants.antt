-- The floats before this one stand in their places, and those from here on are left.
use mathlib.Core.Path.{◌≡◌}
use Prim.Native.Nat.{ℕ}
use Rattle.messagepack.specs.Document.{Documents, count}
use Rattle.values.specs.Places.{AtAll}
use lib.ListN.{length}
use Rattle.transforms.specs.Laws.Matrix.{Reading}
use Rattle.transforms.proofs.floats_from.Given as goal

abbrev pub invariant-loop-float : goal.invariant-loop-float
invariant-loop-float l = (length l.float-items ≡ 16) × ((ds : Documents) (e : ℕ) → AtAll l.file l.at ds e → count ds ≡ 16 → Reading l.file ds l.float-index l.p e l.float-items)
