-- The number in a part of four bytes is the number in the whole.
use mathlib.Core.Path.{◌≡◌, ap, ◌∙◌}
use Prim.Native.Nat.{◌+◌, ◌-◌}
use native.Mathlib.Omega.{arith}
use native.Mathlib.Nat.{add-zero}
use lib.Dec.{lit≤}
use Rattle.numbers.specs.BigEndian.{unsigned_at}
use Rattle.numbers.specs.Laws.BigEndian.{unsigned_at-part}
use Rattle.fields.proofs.word.Goals as goal

pub returns : goal.returns
returns c =
    let a = c.args in
    let four : a.at + 4 - a.at ≡ 4 = omega arith in
    (rw four at c.read_u32.ensures) ∙ unsigned_at-part 4 a.bytes.now a.at 4 0 c.requires (lit≤ tt) ∙ ap (unsigned_at 4 a.bytes.now) (add-zero a.at)
