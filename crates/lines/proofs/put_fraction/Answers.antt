-- No digits, no point; else the point and the digits after it.
use Rattle.text.specs.Laws.Put.{put-more, put_as}
use Rattle.lines.specs.Laws.Texts.{fraction-some}
use Rattle.lines.proofs.put_fraction.Goals as goal

pub returns : goal.returns
returns c = put_as (put-more c.put_byte-first.ensures c.put_digits.ensures) (fraction-some _ _ c.if-k-eq0.false)
