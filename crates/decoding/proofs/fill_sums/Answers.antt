-- n results of the run are written, and x is the last of them (`filled_next`).
use mathlib.Core.Path.{◌≡◌, refl, ◌∙◌}
use mathlib.Core.Bool.{true}
use Prim.Native.Nat.{◌+◌, ◌-◌}
use native.Mathlib.Omega.{arith}
use lib.IntN.{pos}
use mir.Syntax.{w32}
use mir.Val.{to_z, of_z}
use mir.Facts.{to_z-of_z}
use Rattle.payloads.specs.Laws.Writing.{filled-start, filled_next}
use Rattle.decoding.specs.Calls.{as_number}
use Rattle.decoding.proofs.fill_sums.Goals as goal

pub loop-n-init : goal.loop-n-init
loop-n-init c =
    let a = c.args in
    let z : a.from - a.from ≡ 0 = omega arith in
    rw z (filled-start as_number true (to_z w32 (of_z w32 a.sum)) (to_z w32 (of_z w32 a.delta)) a.buffer.now a.from)

pub loop-n-preserved : goal.loop-n-preserved
loop-n-preserved c =
    let a = c.args in
    let p = c.loop-n in
    let r = c.requires in
    let i : p.n + 1 - a.from ≡ (p.n - a.from) + 1 = omega arith in
    let n : a.from + (p.n - a.from) ≡ p.n = omega arith in
    let x = to_z w32 (of_z w32 c.add_delta-x.result) in
    let y = to_z-of_z {w = w32} (record { sfits = c.add_delta-x.type_inv }) ∙ c.add_delta-x.ensures in
    let t = filled_next as_number true (to_z w32 (of_z w32 a.sum)) (to_z w32 (of_z w32 a.delta)) a.buffer.now a.from (p.n - a.from) p.buffer (to_z w32 p.x-bits) x x (pos 0) (omega arith) p.invariant y refl in
    rw i (rw n at t)
