-- The bytes inside, as they are loaded, are the number in the other order (`unsigned_at-loads`); outside the number is 0.
use mathlib.Core.Path.{sym}
use Prim.Native.Nat.{◌+◌, ◌≤◌, ◌<◌}
use native.Mathlib.Omega.{arith}
use lib.ListN.{length}
use Rattle.numbers.specs.Laws.BigEndian.{unsigned_at-loads, unsigned_at-out}
use Rattle.numbers.proofs.read_u32.Goals as goal

pub returns-then-saturating_sub-ge4 : goal.returns-then-saturating_sub-ge4
returns-then-saturating_sub-ge4 c =
    let a = c.args in
    let inside : a.at + 4 ≤ length a.bytes.now = omega arith in
    let l = c.loaded_u32-n.ensures in
    omega (arith, unsigned_at-loads 4 a.bytes.now a.at inside, l.0, l.1.0, l.1.1.0, l.1.1.1.0, l.1.1.1.1)

pub returns-else-saturating_sub-ge4 : goal.returns-else-saturating_sub-ge4
returns-else-saturating_sub-ge4 c =
    let a = c.args in
    let outside : length a.bytes.now < a.at + 4 = omega arith in
    sym (unsigned_at-out 4 a.bytes.now a.at outside)
