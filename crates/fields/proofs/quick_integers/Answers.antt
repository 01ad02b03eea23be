-- By the lead byte alone the value is an array of so many values, and these are integers in their lead bytes.
use mathlib.Core.Path.{◌≡◌, ap}
use Prim.Native.Nat.{ℕ, ◌-◌, ◌<◌, ◌≤◌}
use native.Mathlib.Omega.{arith}
use lib.ListN.{get_or}
use Rattle.fields.specs.Laws.Steps.{integers-say}
use Rattle.fields.proofs.quick_integers.Goals as goal

pub returns-then-all_low : goal.returns-then-all_low
returns-then-all_low c =
    let a = c.args in
    let b = c.from-b.result in
    let low : 0x90 ≤ get_or a.file.now a.at 0 = omega (arith, c.from-b.ensures) in
    let high : get_or a.file.now a.at 0 < 0xa0 = omega (arith, c.from-b.ensures) in
    let count-is : b - 0x90 ≡ get_or a.file.now a.at 0 - 0x90 = ap (λ (z : ℕ). z - 0x90) c.from-b.ensures in
    λ h. integers-say a.file.now a.at (b - 0x90) c.if-file-at.false low high count-is (c.all_low.ensures.0 c.if-all_low.true)
