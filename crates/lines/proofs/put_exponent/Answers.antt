-- The letter and the sign by the test of the definition, and the size after them.
use borrow.Author.Tests.{lt-ltb, le-ltb}
use Rattle.text.specs.Laws.Put.{put-more, put_as}
use Rattle.lines.proofs.put_exponent.Goals as goal

pub returns-then-exponent-lt127 : goal.returns-then-exponent-lt127
returns-then-exponent-lt127 c = put_as (put-more c.put-size.ensures c.put_decimal.ensures) (simp (lt-ltb _ _ c.if-exponent-lt127.true))

pub returns : goal.returns
returns c = put_as (put-more c.put-size-2.ensures c.put_decimal-2.ensures) (simp (le-ltb _ _ c.if-exponent-lt127.false))
