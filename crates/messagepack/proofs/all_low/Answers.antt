-- The bytes before a place are below 80; at the end the last four may overlap them.
use Rattle.std.proofs.Common.{◌-◌, length, arith}
use Rattle.messagepack.proofs.Laws.Quick.{low-more, low-ascii}
use Rattle.messagepack.proofs.all_low.Goals as goal

pub returns : goal.returns
returns c =
    let a = c.args in
    let l = c.loop-i in
    λ q. low-ascii a.bytes.now (λ j h. low-more a.bytes.now l.i (length a.bytes.now - 4) c.loop-i-test.false l.invariant (λ k g. c.low_word-2.ensures q k g) j (omega arith))
