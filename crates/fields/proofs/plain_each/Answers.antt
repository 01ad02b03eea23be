-- What is left from here on decides.
use mathlib.Core.Path.{◌≡◌, subst}
use Prim.Native.Nat.{ℕ, ◌-◌}
use native.Mathlib.Omega.{arith}
use Rattle.fields.specs.Types.{plain}
use Rattle.fields.specs.Steps.{ItemsSay}
use Rattle.fields.specs.Laws.Steps.{left-next, items-none, items-next, items-wrong}
use Rattle.fields.specs.Tests.{typed}
use Rattle.fields.proofs.plain_each.Goals as goal

pub loop-init : goal.loop-init
loop-init c =
    let a = c.args in
    let first = c.quick_items-first.result in
    let all : first.left - 0 ≡ first.left = omega arith in
    λ r h. c.quick_items-first.ensures.says r (subst (λ (z : ℕ). ItemsSay a.file.now (typed (plain a.wanted)) z first.at r) all h)

pub returns-then-e-eq0 : goal.returns-then-e-eq0
returns-then-e-eq0 c =
    let a = c.args in
    let l = c.loop in
    l.invariant 0 (items-wrong a.file.now (typed (plain a.wanted)) _ l.p (omega (arith, c.loop-test.true)) c.plain_at-e.ensures c.if-e-eq0.true)

pub loop-preserved : goal.loop-preserved
loop-preserved c =
    let a = c.args in
    let l = c.loop in
    let left = c.quick_items-first.result.left in
    λ r h.
    let rest = subst (λ (z : ℕ). ItemsSay a.file.now (typed (plain a.wanted)) z c.plain_at-e.result r) (left-next left l.counter) h in
    l.invariant r (items-next a.file.now (typed (plain a.wanted)) (left - l.counter) l.p (omega (arith, c.loop-test.true)) c.plain_at-e.ensures c.if-e-eq0.false rest)

pub returns : goal.returns
returns c =
    let a = c.args in
    let l = c.loop in
    l.invariant l.p (items-none a.file.now (typed (plain a.wanted)) _ l.p (omega (arith, c.loop-test.false)))
