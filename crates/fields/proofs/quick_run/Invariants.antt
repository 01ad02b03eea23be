-- Each value that is passed is of the kind.
use Prim.Native.Nat.{◌-◌}
use Rattle.fields.specs.Types.{plain}
use Rattle.fields.specs.Steps.{RunSays}
use Rattle.fields.specs.Tests.{typed}
use Rattle.fields.proofs.quick_run.Given as goal

abbrev pub invariant-loop-i : goal.invariant-loop-i
invariant-loop-i l = RunSays l.file (typed (plain l.wanted)) l.count l.at (l.count - l.i) l.p
