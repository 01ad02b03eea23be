-- Each value that is passed is of the kind.
use mathlib.Core.Path.{sym, subst}
use Prim.Native.Nat.{ℕ}
use native.Mathlib.Omega.{arith}
use native.Mathlib.Nat.{pos_of_ne-zero}
use Rattle.fields.specs.Types.{plain}
use Rattle.fields.specs.Tests.{typed}
use Rattle.fields.specs.Steps.{RunSays}
use Rattle.fields.specs.Laws.Steps.{left-next, run-next}
use Rattle.fields.proofs.quick_run.Goals as goal

pub loop-i-preserved : goal.loop-i-preserved
loop-i-preserved c =
    let a = c.args in
    let l = c.loop-i in
    subst (λ (z : ℕ). RunSays a.file.now (typed (plain a.wanted)) a.count a.at z c.quick_end-e.result) (sym (left-next a.count l.i))
    (run-next l.invariant (omega (arith, c.loop-i-test.true)) (c.quick_end-e.ensures (pos_of_ne-zero c.if-e-eq0.false)) c.if-e-eq0.false)
