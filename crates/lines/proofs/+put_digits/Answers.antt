-- The last digit is put after those above it, and their count falls.
use mathlib.Core.Path.{◌∙◌}
use Rattle.text.specs.Laws.Put.{put-none, put-more, put_as}
use Rattle.lines.specs.Laws.Texts.{digits_last, digits-none}
use Rattle.lines.proofs.+put_digits.Goals as goal

pub returns-then-k-eq0 : goal.returns-then-k-eq0
returns-then-k-eq0 t c = put_as (put-none _ _) (digits-none _ _ _ c.if-k-eq0.true)

pub returns : goal.returns
returns t c =
    let a = c.args in
    put_as (put-more c.put_digits-last.ensures c.put_byte.ensures) (digits_last a.base a.k a.number c.if-k-eq0.false ∙ rw c.digit.ensures)
