-- What is left of the values decides, since those before are plain.
use Prim.Native.Nat.{◌-◌}
use Rattle.values.specs.Walked.{WalkedAll}
use Rattle.views.specs.Laws.Shapes.{Plains}
use Rattle.views.proofs.shapes.all_plain.Given as goal

abbrev pub invariant-loop-i : goal.invariant-loop-i
invariant-loop-i l = WalkedAll l.file l.n l.at (λ ds e. Plains l.file ds l.p (l.n - l._i) e)
