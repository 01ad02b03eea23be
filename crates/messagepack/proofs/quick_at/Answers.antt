-- A lead byte below 80 is an integer, and ca is a float's; a short string ends where it ends.
use Rattle.std.proofs.Common.{arith}
use Rattle.messagepack.specs.Quick.{other}
use Rattle.messagepack.proofs.Laws.Quick.{low-ends, short-ends, short-inside}
use Rattle.messagepack.proofs.quick_at.Goals as goal

pub returns-then-file-at : goal.returns-then-file-at
returns-then-file-at c = other

pub returns-then-b-lt128 : goal.returns-then-b-lt128
returns-then-b-lt128 c = low-ends _ _ c.if-file-at.false c.if-b-lt128.true

pub returns-in_err-text : goal.returns-in_err-text
returns-in_err-text c = rw c.from_residual.ensures other

pub overflow_add-result-2 : goal.overflow_add-result-2
overflow_add-result-2 c = omega (arith, short-inside c.short_at.ensures c.in_ok-text.was)

pub returns : goal.returns
returns c = short-ends c.short_at.ensures c.in_ok-text.was
