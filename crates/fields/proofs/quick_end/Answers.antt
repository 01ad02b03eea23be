-- By the lead byte alone the kind is known, and where the value ends.
use mathlib.Core.Path.{◌≡◌, ap}
use Prim.Native.Nat.{ℕ, ◌-◌, ◌+◌, ◌<◌, ◌≤◌}
use native.Mathlib.Omega.{arith}
use lib.ListN.{length, get_or}
use Rattle.fields.specs.Types.{plain}
use Rattle.fields.specs.Laws.Steps.{value_as, low-says, short-says}
use Rattle.fields.proofs.quick_end.Goals as goal

pub returns-then-b-lt128 : goal.returns-then-b-lt128
returns-then-b-lt128 c =
    let a = c.args in
    let low : get_or a.file.now a.at 0 < 0x80 = omega (arith, c.from-b.ensures) in
    λ h. value_as (plain a.wanted) (plain 1) (ap plain c.if-wanted-eq-INTEGER.true) (low-says a.file.now a.at c.if-file-at.false low)

pub returns-then-wanted-eq-FLOAT : goal.returns-then-wanted-eq-FLOAT
returns-then-wanted-eq-FLOAT c =
    let a = c.args in
    λ h. value_as (plain a.wanted) (plain 2) (ap plain c.if-wanted-eq-FLOAT.true) (c.float_end.ensures h)

pub returns : goal.returns
returns c =
    let a = c.args in
    let b = c.from-b.result in
    let low : 0xa0 ≤ get_or a.file.now a.at 0 = omega (arith, c.from-b.ensures) in
    let high : get_or a.file.now a.at 0 < 0xc0 = omega (arith, c.from-b.ensures) in
    let length-is : b - 0xa0 ≡ get_or a.file.now a.at 0 - 0xa0 = ap (λ (z : ℕ). z - 0xa0) c.from-b.ensures in
    let inside : a.at + 1 + (b - 0xa0) ≤ length a.file.now = omega arith in
    λ h. value_as (plain a.wanted) (plain 3) (ap plain c.if-wanted-ne-STRING.false) (short-says a.file.now a.at c.if-file-at.false (b - 0xa0) low high length-is inside)
