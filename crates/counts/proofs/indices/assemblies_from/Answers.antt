-- What is left of the assemblies decides, since those before list indices of chains only.
use mathlib.Core.Path.{◌≡◌, sym, ◌∙◌}
use Prim.Native.Nat.{◌+◌, ◌-◌, ◌<◌}
use native.Mathlib.Omega.{arith}
use Rattle.values.specs.Laws.Places.{at-standing}
use Rattle.counts.proofs.Laws.Indices.{judging-next, judging-more, judging-out, judging-end}
use Rattle.counts.proofs.indices.assemblies_from.Goals as goal

pub returns-then-not-transforms_inside : goal.returns-then-not-transforms_inside
returns-then-not-transforms_inside c =
    λ ds e a k.
    let j = c.loop.invariant ds e a k in
    let more : 0 < c.args.n - c.loop.counter = omega arith in
    let n = judging-next j more in
    judging-out j more (sym (c.transforms_inside.ensures n.d n.q n.first) ∙ c.if-not-transforms_inside.true)

pub loop-preserved : goal.loop-preserved
loop-preserved c =
    λ ds e a k.
    let j = c.loop.invariant ds e a k in
    let more : 0 < c.args.n - c.loop.counter = omega arith in
    let n = judging-next j more in
    let left : c.args.n - (c.loop.counter + 1) ≡ c.args.n - c.loop.counter - 1 = omega arith in
    rw left (judging-more j more (sym (c.transforms_inside.ensures n.d n.q n.first) ∙ c.if-not-transforms_inside.false) (c.skip-p.ensures n.q (at-standing n.first)))

pub returns : goal.returns
returns c = λ ds e a k. judging-end (c.loop.invariant ds e a k) (omega arith)
