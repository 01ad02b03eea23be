-- Two lines are put one after another. Assumes nothing.
use Rattle.text.specs.Laws.Put.{put-more}
use Rattle.receipt.proofs.put_last.Goals as goal

pub returns : goal.returns
returns c = put-more c.put_line-units.ensures c.put_line.ensures
