-- Of the values from here on the one that is sought has the number that is left.
use mathlib.Core.Path.{◌≡◌}
use Prim.Native.Nat.{ℕ, ◌-◌, ◌<◌}
use Rattle.messagepack.specs.Document.{Documents, count}
use Rattle.values.specs.Places.{AtAll}
use Rattle.transforms.specs.Laws.Matrix.{Going}
use Rattle.transforms.proofs.past.Given as goal

abbrev pub invariant-loop-i : goal.invariant-loop-i
invariant-loop-i l = (ds : Documents) (e : ℕ) → AtAll l.file l.at ds e → l.n < count ds → Going l.file ds l.n l.p (l.n - l._i) e
