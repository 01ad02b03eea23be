-- What is left of the maps decides, since those before list indices of chains only.
use mathlib.Core.Path.{◌≡◌, sym, ◌∙◌}
use Prim.Native.Nat.{◌+◌, ◌-◌, ◌<◌}
use native.Mathlib.Omega.{arith}
use Rattle.values.specs.Parts.{under}
use Rattle.counts.proofs.Laws.Indices.{judging-next, judging-more, judging-out, judging-end}
use Rattle.counts.proofs.indices.inside_from.Goals as goal

pub returns-then-not-inside : goal.returns-then-not-inside
returns-then-not-inside c =
    λ ds e a k.
    let j = c.loop.invariant ds e a k in
    let more : 0 < c.args.n - c.loop.counter = omega arith in
    let n = judging-next j more in
    let l = c.list_at-list.ensures n.d n.q n.first in
    judging-out j more (sym (c.inside.ensures (under "chainIndexList" n.d) l.says) ∙ c.if-not-inside.true)

pub loop-preserved : goal.loop-preserved
loop-preserved c =
    λ ds e a k.
    let j = c.loop.invariant ds e a k in
    let more : 0 < c.args.n - c.loop.counter = omega arith in
    let n = judging-next j more in
    let l = c.list_at-list.ensures n.d n.q n.first in
    let left : c.args.n - (c.loop.counter + 1) ≡ c.args.n - c.loop.counter - 1 = omega arith in
    rw left (judging-more j more (sym (c.inside.ensures (under "chainIndexList" n.d) l.says) ∙ c.if-not-inside.false) l.ends)

pub returns : goal.returns
returns c = λ ds e a k. judging-end (c.loop.invariant ds e a k) (omega arith)
