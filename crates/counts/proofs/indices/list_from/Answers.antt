-- The key is sought entry by entry, up to the end.
use mathlib.Core.Path.{◌≡◌}
use mathlib.Core.Bool.{cond}
use Prim.Native.Nat.{◌+◌, ◌-◌}
use native.Mathlib.Omega.{arith}
use Rattle.values.specs.Laws.Seeking.{seeking-start, seeking-end}
use Rattle.counts.proofs.Laws.Group.{entries-end}
use Rattle.counts.proofs.Laws.Indices.{seek-on}
use Rattle.counts.proofs.indices.list_from.Goals as goal
use Rattle.counts.proofs.indices.list_from.Goals.{then-is_list, else-is_list}

pub loop-init : goal.loop-init
loop-init c = λ es e a k. (record { rest = es; all = a; counts = omega (arith, k) }, seeking-start)

pub loop-preserved : goal.loop-preserved
loop-preserved c =
    λ es e a k.
    let i = c.loop.invariant es e a k in
    let left : c.args.n - (c.loop.counter + 1) ≡ c.args.n - c.loop.counter - 1 = omega arith in
    let value = c.key_at-key.result.at + c.key_at-key.result.count in
    let found : c.if-is_list.found ≡ cond c.is_list.result value c.loop.found =
    elim c.if-is_list.branch [ then-is_list w ↦ rw w.if-is_list.true w.found-is | else-is_list w ↦ rw w.if-is_list.false w.found-is ] in
    rw left (seek-on i.0 i.1 (omega arith) c.key_at-key.result (λ x f d. c.key_at-key.ensures.says x f d) c.is_list.ensures found (c.past_value-p.ensures))

pub returns : goal.returns
returns c =
    λ es e a k.
    let i = c.loop.invariant es e a k in
    record { says = seeking-end i.0.rest i.1 (omega (arith, i.0.counts)); ends = entries-end i.0.rest i.0.all (omega (arith, i.0.counts)) }
