-- The bytes inside, as they are loaded, are the number in the other order (`unsigned_at-loads`); outside the number is 0.
use mathlib.Core.Path.{sym}
use Prim.Native.Nat.{◌+◌, ◌≤◌, ◌<◌}
use native.Mathlib.Omega.{arith}
use lib.ListN.{length}
use Rattle.numbers.specs.Laws.BigEndian.{unsigned_at-loads, unsigned_at-out}
use Rattle.numbers.proofs.read_u16.Goals as goal

pub returns-then-saturating_sub-ge2 : goal.returns-then-saturating_sub-ge2
returns-then-saturating_sub-ge2 c =
    let a = c.args in
    let inside : a.at + 2 ≤ length a.bytes.now = omega arith in
    omega (arith, unsigned_at-loads 2 a.bytes.now a.at inside, c.loaded_u16-n.ensures.0, c.loaded_u16-n.ensures.1.0, c.loaded_u16-n.ensures.1.1)

pub returns-else-saturating_sub-ge2 : goal.returns-else-saturating_sub-ge2
returns-else-saturating_sub-ge2 c =
    let a = c.args in
    let outside : length a.bytes.now < a.at + 2 = omega arith in
    sym (unsigned_at-out 2 a.bytes.now a.at outside)
