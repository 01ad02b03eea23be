-- Without jobs nothing is put; else three lines, one after another. Assumes nothing.
use Rattle.std.proofs.Common.{sym, ◌∙◌}
use Rattle.text.specs.Laws.Put.{put-more, put_as}
use Rattle.bill.specs.Bill.{entry_text}
use Rattle.bill.proofs.put_entry.Goals as goal

pub returns : goal.returns
unfolding entry_text
returns c =
    put_as (put-more (put-more c.put_line-second.ensures c.put_line-third.ensures) c.put_line.ensures) (rw (sym c.has_none.ensures ∙ c.if-has_none.false))
