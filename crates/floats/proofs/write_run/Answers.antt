-- The run, or four floats that are the run and more (`part-filled`).
use mathlib.Core.Path.{refl}
use Prim.Native.Nat.{◌+◌}
use native.Mathlib.Omega.{arith}
use Rattle.payloads.specs.Laws.Runs.{short-run}
use Rattle.floats.specs.Laws.Filled.{part-filled}
use Rattle.floats.proofs.write_run.Goals as goal

pub returns-then-count-gt4 : goal.returns-then-count-gt4
returns-then-count-gt4 c =
    let a = c.args in
    let r = c.requires in
    (a.count, omega arith, r.0, part-filled a.bits a.buffer.now c.fill.new.self a.from (a.from + a.count) a.count refl (omega arith) (c.fill.ensures.after (λ y e. e)))

pub returns-then-is_short : goal.returns-then-is_short
returns-then-is_short c =
    let a = c.args in
    let r = c.requires in
    let s = short-run a.count a.left c.is_short.result c.is_short.ensures c.if-is_short.true in
    (4, s.0, s.1, part-filled a.bits a.buffer.now c.fill-then-is_short.new.self a.from (a.from + 4) 4 refl (omega (arith, s.1)) (c.fill-then-is_short.ensures.after (λ y e. e)))

pub returns-else-is_short : goal.returns-else-is_short
returns-else-is_short c =
    let a = c.args in
    let r = c.requires in
    (a.count, omega arith, r.0, part-filled a.bits a.buffer.now c.fill-else-is_short.new.self a.from (a.from + a.count) a.count refl (omega arith) (c.fill-else-is_short.ensures.after (λ y e. e)))
