-- The test is the definition's; the line feed comes after the text.
use borrow.Author.Tests.{ne_eqb}
use Rattle.text.specs.Laws.Put.{put-more, put_as}
use Rattle.lines.proofs.put_float.Goals as goal

pub returns : goal.returns
returns c = put_as (put-more (put-more c.put_sign-first.ensures c.put_exact-end.ensures) c.put_byte.ensures) (simp (ne_eqb _ _ c.if-exponent-eq255.false))
