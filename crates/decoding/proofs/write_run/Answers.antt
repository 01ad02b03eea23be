-- The run, or four cells that are the run and more (`part-filled`).
use mathlib.Core.Path.{refl}
use Prim.Native.Nat.{◌+◌}
use native.Mathlib.Omega.{arith}
use mir.Syntax.{w32}
use mir.Facts.{to_z-of_z}
use Rattle.payloads.specs.Laws.Runs.{short-run}
use Rattle.decoding.specs.Laws.Filled.{part-filled}
use Rattle.decoding.proofs.write_run.Goals as goal

pub returns-then-count-gt4 : goal.returns-then-count-gt4
returns-then-count-gt4 c =
    let a = c.args in
    let r = c.requires in
    let v = to_z-of_z {w = w32} c.ranges.value in
    (a.count, omega arith, r.0, part-filled a.value a.buffer.now c.fill.new.self a.from (a.from + a.count) a.count refl (omega arith) (rw v at (c.fill.ensures.after (λ y e. e))))

pub returns-then-is_short : goal.returns-then-is_short
returns-then-is_short c =
    let a = c.args in
    let r = c.requires in
    let v = to_z-of_z {w = w32} c.ranges.value in
    let s = short-run a.count a.left c.is_short.result c.is_short.ensures c.if-is_short.true in
    (4, s.0, s.1, part-filled a.value a.buffer.now c.fill-then-is_short.new.self a.from (a.from + 4) 4 refl (omega (arith, s.1)) (rw v at (c.fill-then-is_short.ensures.after (λ y e. e))))

pub returns-else-is_short : goal.returns-else-is_short
returns-else-is_short c =
    let a = c.args in
    let r = c.requires in
    let v = to_z-of_z {w = w32} c.ranges.value in
    (a.count, omega arith, r.0, part-filled a.value a.buffer.now c.fill-else-is_short.new.self a.from (a.from + a.count) a.count refl (omega arith) (rw v at (c.fill-else-is_short.ensures.after (λ y e. e))))
