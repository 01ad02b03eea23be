-- What is left from here on decides.
use Prim.Native.Nat.{ℕ, ◌-◌}
use Rattle.fields.specs.Types.{plain}
use Rattle.fields.specs.Steps.{ItemsSay}
use Rattle.fields.specs.Tests.{typed}
use Rattle.fields.proofs.plain_each.Given as goal

abbrev pub invariant-loop : goal.invariant-loop
invariant-loop l = (r : ℕ) → ItemsSay l.file (typed (plain l.wanted)) (l.end - l.counter) l.p r → ItemsSay l.file (typed (plain l.wanted)) l.count l.at r
