-- What is left of the values decides, since those before lie between the two numbers.
use Prim.Native.Nat.{◌-◌}
use Rattle.numbers.specs.Ranges.{between}
use Rattle.values.specs.Laws.Integers.{Judging}
use Rattle.values.specs.Walked.{WalkedAll}
use Rattle.values.proofs.lists.between_from.Given as goal

abbrev pub invariant-loop-i : goal.invariant-loop-i
invariant-loop-i l = WalkedAll l.file l.n l.at (λ ds e. Judging l.file ds (between l.low l.high) l.p (l.n - l._i) e)
