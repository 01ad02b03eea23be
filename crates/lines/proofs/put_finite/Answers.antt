-- The pieces of the definition, one after the other.
use Rattle.text.specs.Laws.Put.{put-more, put_as}
use Rattle.lines.proofs.put_finite.Goals as goal

pub returns : goal.returns
returns c =
    put_as
    (put-more (put-more (put-more (put-more c.put-lead.ensures c.put_byte-point.ensures) c.put_byte-first.ensures) c.put_digits-end.ensures) c.put_exponent.ensures)
    (rw (c.digit.ensures, c.lead_of.ensures, c.scaled_of.ensures))
