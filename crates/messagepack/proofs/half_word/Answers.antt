-- The number in a part of two bytes is the number in the whole.
use Rattle.std.proofs.Common.{◌≡◌, ◌+◌, ◌-◌, ap, ◌∙◌, add-zero, arith, lit≤}
use Rattle.numbers.specs.BigEndian.{unsigned_at}
use Rattle.numbers.specs.Laws.BigEndian.{unsigned_at-part}
use Rattle.messagepack.proofs.half_word.Goals as goal

pub returns : goal.returns
returns c =
    let a = c.args in
    let two : a.at + 2 - a.at ≡ 2 = omega arith in
    (rw two at c.read_u16.ensures) ∙ unsigned_at-part 2 a.bytes.now a.at 2 0 c.requires (lit≤ tt) ∙ ap (unsigned_at 2 a.bytes.now) (add-zero a.at)
