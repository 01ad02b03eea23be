-- The run alone, or sixteen characters and those behind them (`covered-rest`).
use mathlib.Core.Path.{refl, ◌∙◌}
use Prim.Native.Nat.{◌+◌, ◌-◌}
use native.Mathlib.Omega.{arith}
use lib.ListN.{replicate}
use Rattle.payloads.specs.Results.{paste}
use Rattle.payloads.specs.Laws.Runs.{covered-rest, covered-length}
use Rattle.decoding.specs.Laws.Filled.{part-filled}
use Rattle.decoding.proofs.write_byte.Goals as goal

pub returns-then-left-lt16 : goal.returns-then-left-lt16
returns-then-left-lt16 c =
    let a = c.args in
    let r = c.requires in
    (a.count, omega arith, r.0, part-filled a.byte a.buffer.now c.fill.new.self a.from (a.from + a.count) a.count refl (omega arith) (c.fill.ensures.after (λ y e. e)))

pub returns-then-count-gt16 : goal.returns-then-count-gt16
returns-then-count-gt16 c =
    let a = c.args in
    let r = c.requires in
    let f = part-filled a.byte a.buffer.now c.fill-2.new.self a.from (a.from + 16) 16 refl (omega arith) (c.fill-2.ensures.after (λ y e. e)) in
    let p = paste a.buffer.now a.from (replicate 16 a.byte) in
    let s = covered-length a.byte a.buffer.now a.from 16 16 (omega arith) (omega arith) in
    let g = part-filled a.byte p c.fill-then-count-gt16.new.self (a.from + 16) (a.from + a.count) (a.count - 16) (omega arith) (omega arith) (rw f at (c.fill-then-count-gt16.ensures.after (λ y e. e))) in
    (a.count, omega arith, r.0, rw f g ∙ covered-rest a.byte a.buffer.now a.from 16 a.count (omega arith) (omega arith))

pub returns-else-count-gt16 : goal.returns-else-count-gt16
returns-else-count-gt16 c =
    let a = c.args in
    let r = c.requires in
    (16, omega arith, omega arith, part-filled a.byte a.buffer.now c.fill-2.new.self a.from (a.from + 16) 16 refl (omega arith) (c.fill-2.ensures.after (λ y e. e)))
