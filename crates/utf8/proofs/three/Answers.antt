-- `utf8::three` meets its contract: two bytes follow, and each step hands on what is due. Assumes nothing.
use mathlib.Core.Path.{ap, ◌∙◌}
use native.Mathlib.Omega.{arith}
use Rattle.utf8.specs.Step.{onward}
use Rattle.utf8.specs.Laws.Check.{following-three}
use Rattle.utf8.specs.Laws.Step.{forward-next, forward-from}
use Rattle.utf8.proofs.three.Goals as goal

pub returns-in_default : goal.returns-in_default
returns-in_default c =
    let q = c in
    let p = q.requires in
    record { bytes_value = q.second.ensures.by_index 1 (following-three _ p.least p.most) ∙ ap (onward 1 q.args.bytes.now) c.in_default.is; forward = tt }

pub returns : goal.returns
returns c =
    let q = c in
    let p = q.requires in
    let e = c.in-Some.is in
    let f = forward-next _ _ q.second.ensures.forward e in
    record { bytes_value = q.second.ensures.by_index 1 (following-three _ p.least p.most) ∙ ap (onward 1 q.args.bytes.now) e ∙ c.follow.ensures.by_index 0; forward = forward-from _ c.follow.result (omega arith) c.follow.ensures.forward }
