-- The word is made of the four bytes, and each test is of one of them.
use Rattle.std.proofs.Common.{arith, ltb-true}
use Rattle.messagepack.proofs.Laws.Quick.{word_low}
use Rattle.messagepack.proofs.low_word.Goals as goal

pub returns : goal.returns
returns c =
    let a = c.args in
    λ q i h. word_low a.bytes.now a.at _ (λ j. omega (arith, c.type_inv.bytes j)) c.requires c.word-four.ensures c.if-four-ge128.false c.if-four-ge128-2.false c.if-high-ge128.false (ltb-true _ 0x80 q) i h
