-- The test is the definition's, and the digits stand after the mark of a byte.
use mathlib.Core.Path.{sym, ◌∙◌}
use Rattle.text.specs.Laws.Put.{put-more, put_as}
use Rattle.lines.proofs.single.put_shown.Goals as goal

pub returns-then-breaks_line : goal.returns-then-breaks_line
returns-then-breaks_line c = put_as (put-more c.put-digits.ensures c.put_digits.ensures) (rw (sym c.breaks_line.ensures ∙ c.if-breaks_line.true, c.from.ensures))
