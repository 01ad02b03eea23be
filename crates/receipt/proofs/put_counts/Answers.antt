-- Five lines are put one after another. Assumes nothing.
use Rattle.text.specs.Laws.Put.{put-more}
use Rattle.receipt.proofs.put_counts.Goals as goal

pub returns : goal.returns
returns c =
    put-more (put-more (put-more (put-more c.put_line-chains.ensures c.put_line-groups.ensures) c.put_line-atoms.ensures) c.put_line-bonds.ensures)
    c.put_line.ensures
