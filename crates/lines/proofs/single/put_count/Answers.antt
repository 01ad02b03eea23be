-- Each arm is the definition's case.
use mathlib.Core.Path.{ap}
use Rattle.text.specs.Laws.Put.{put-more, put_as}
use Rattle.lines.specs.Single.{count_text}
use Rattle.lines.proofs.single.put_count.Goals as goal

pub returns-in-Some : goal.returns-in-Some
returns-in-Some c = put_as (put-more c.put-first.ensures c.put_decimal.ensures) (ap count_text c.in-Some.is)
