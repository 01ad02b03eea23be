-- The pieces of the definition, one after the other.
use mathlib.Core.List.{append_assoc}
use Rattle.text.specs.Laws.Put.{put-more, put_as}
use Rattle.lines.proofs.single.put_field.Goals as goal

pub returns : goal.returns
returns c =
    put_as
    (put-more (put-more (put-more (put-more c.put_escaped-first.ensures c.put_sort-second.ensures) c.put_count-third.ensures) c.put_count-end.ensures) c.put_byte.ensures)
    (simp append_assoc)
